-- Field by field, each value is the alarm's, and the mark is the name of the first shelf.
use Rattle.std.proofs.Common.{ap, refl, ◌∙◌}
use Rattle.std.specs.Prelude.{ℕ, Bool, List, Some, option_map}
use Rattle.al_base.specs.Names.{severity_name}
use Rattle.al_base.specs.declared.text.Text.{Text}
use Rattle.al_ids.specs.declared.key.AlarmKey.{AlarmKey}
use Rattle.al_contents.proofs.Sides.{mark_is}
use Rattle.serde_json.specs.Data.{boolean, string}
use Rattle.al_json.specs.Alarms.{created_on, event_type_of}
use Rattle.al_json.specs.Histories.{moment}
use Rattle.al_json.proofs.AlarmFields.{same_fields}
use Rattle.al_json.proofs.alarm.alarm_table.Goals as goal

pub returns : goal.returns
returns c =
    let s = c.args.tables.now.state in
    let a = c.args.alarm.now.state in
    same_fields s c.args.side a _ _ _ _ _ _ _ _ _ _ _ _ _
    (ap (λ (t : Text). Some (string t)) c.text.ensures)
    (ap (λ (t : List ℕ). Some (string t)) (c.text-2.ensures.text ∙ ap (λ (k : AlarmKey). k.type_id) c.key.ensures))
    (ap (λ (k : AlarmKey). Some (string k.qualifier)) c.key-2.ensures)
    (c.event_type.ensures ∙ ap (event_type_of s) c.key-3.ensures)
    (ap (λ (b : Bool). Some (boolean b)) c.cleared.ensures)
    (ap (λ (t : ℕ). Some (moment t)) c.changed.ensures)
    (ap (λ (t : ℕ). Some (moment t)) c.raised.ensures)
    refl
    (ap (λ (t : List ℕ). Some (string t)) (c.name.ensures ∙ ap severity_name c.severity.ensures))
    (ap (λ (t : List ℕ). Some (string t)) (c.text-3.ensures.text ∙ ap (λ (k : AlarmKey). k.resource) c.key-4.ensures))
    (c.of_text.ensures ∙ ap (option_map string) (c.shelf_name.ensures ∙ mark_is s a c.requires))
    refl
    (c.created-2.ensures ∙ ap (created_on c.args.side) c.created.ensures)
