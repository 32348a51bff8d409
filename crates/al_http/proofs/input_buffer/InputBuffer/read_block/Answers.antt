use Rattle.std.proofs.Common.{◌≡◌, ℕ, ◌+◌, ◌≤◌, ◌∙◌, List, length, take}
use Rattle.std.specs.Prelude.{slice_range}
use Rattle.std.proofs.lemmas.List.{with_items_is}
use Rattle.al_http.proofs.StreamLemmas.{front_part}
use Rattle.al_http.proofs.input_buffer.InputBuffer.read_block.Goals as goal

-- the block at the front of the bytes held
block_at : (items bytes : List ℕ) (start filled len : ℕ) → items ≡ bytes → len ≤ length (slice_range bytes start filled)
    → slice_range items start (start + len) ≡ take len (slice_range bytes start filled)
block_at items bytes start filled len same within = rw same (front_part bytes start filled len within)

pub read_head-requires-clause-is_block : goal.read_head-requires-clause-is_block
read_head-requires-clause-is_block c =
    rw (block_at _ _ c.args.self.now.start _ c.args.len c.deref.ensures.value c.requires.within) c.requires.is_block

pub returns-clause-reads : goal.returns-clause-reads
returns-clause-reads c =
    let buffer = c.args.self.now in
    rw (with_items_is buffer.spans c.read_head.new.spans (c.read_head.auto.spans ∙ c.deref_mut.ensures.len))
    (rw (block_at _ _ buffer.start _ c.args.len c.deref.ensures.value c.requires.within) at c.read_head.ensures.reads)

pub returns-clause-rejects : goal.returns-clause-rejects
returns-clause-rejects c =
    rw (block_at _ _ c.args.self.now.start _ c.args.len c.deref.ensures.value c.requires.within) at c.read_head.ensures.rejects
