use Rattle.std.proofs.Common.{◌≡◌, ◌≤◌, ◌-◌, ℕ, Some, ◌∷◌, length, ◌∙◌, arith}
use Rattle.json.specs.Json.{read_key}
use Rattle.json.specs.Token as token
use Rattle.al_input.specs.Plain.{members_at, members_said}
use Rattle.al_input.proofs.PlainLemmas.{if_then, members_done, one_more}
use Rattle.al_input.proofs.plain.+read_members.Goals as goal

pub returns-in_ok-more-in-Ok-Some : goal.returns-in_ok-more-in-Ok-Some
returns-in_ok-more-in-Ok-Some t c =
    let ts = c.args.reader.now in
    let r = c.next_text.new.reader in
    let end = c.read_members.new.reader in
    let before = members_said c.args.said in
    let after = members_said c.in_ok-more-in-Ok-Some.more in
    let name = c.in-Ok-Some.name.now in
    let text = c.in_ok-text-in-Ok-Some.text.now in
    let next : c.next_key.new.self ≡ token.string text ∷ r = c.in_ok-text-in-Ok-Some.ensures in
    let named : read_key ts ≡ Some (Some name, token.string text ∷ r) = grind (arith, next) in
    if_then (λ all. (n : ℕ) → length r ≤ n → members_at n after r ≡ Some (members_said all, end)) (λ all. (n : ℕ) → length ts ≤ n → members_at n before ts ≡ Some (members_said all, end)) c.read_members.result c.read_members.ensures (λ all h n enough.
    let more = one_more before after name text ts r n named c.in_ok-more-in-Ok-Some.ensures enough in
    more.0 ∙ h (n - 1) more.1)

pub returns-in-Ok-None : goal.returns-in-Ok-None
returns-in-Ok-None t c n enough =
    members_done (members_said c.args.said) n c.args.reader.now c.next_key.new.self enough (grind arith)
