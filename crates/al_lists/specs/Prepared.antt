-- Changes of the tables as they are prepared.
use Rattle.std.specs.Prelude.{◌≡◌, ◌+◌, ◌<◌, ◌^◌, IfSome}
use Rattle.al_model.specs.State.{State}
use Rattle.al_model.specs.Step.{built, step}
use Rattle.al_model.specs.Validity.{IsValid}
use Rattle.al_model.specs.declared.entry.Entry.{Entry}
use Rattle.al_contents.specs.Changes.{HasRoom, with_change}
use Rattle.al_contents.specs.Tables.{TablesView}
use Rattle.al_lists.specs.declared.prepared.Prepared.{Prepared}

-- the state with all that was prepared
unfoldable pub with_prepared : State → Prepared → State
with_prepared s p = let c = with_change p.time p.change s in built c c.alarms p.note p.list p.shelf p.time

-- What was prepared can be carried out: there is room for it, its note has a number, and it leaves a valid state.
pub record IsReady (t : TablesView) (p : Prepared) : Type 0 where
  pub room : HasRoom t p.change
  pub number : IfSome p.note (λ note. t.state.log.sent + 1 < 2 ^ 32)
  pub valid : IsValid (with_prepared t.state p)

-- The step of the entry is prepared.
pub record IsPreparedFor (t : TablesView) (e : Entry) (p : Prepared) : Type 0 where
  pub ready : IsReady t p
  pub gives : with_prepared t.state p ≡ step t.state e
