-- The text of one alarm, whole.
use Rattle.std.proofs.Common.{◌≡◌, true, false, [], ◌∷◌, Some, refl}
use Rattle.std.specs.Prelude.{codes}
use Rattle.al_base.specs.Times.{day_after, stamp_text}
use Rattle.al_base.specs.declared.event_type.EventType.TheVariants.{CommunicationsAlarm}
use Rattle.al_base.specs.declared.severity.Severity.TheVariants.{Major}
use Rattle.al_base.specs.declared.severity.Status.TheVariants.{Active}
use Rattle.al_model.specs.State.{AlarmState, State, start}
use Rattle.al_model.specs.declared.event.Side.TheVariants as sides
use Rattle.json.specs.Print.{escape_byte}
use Rattle.serde_json.specs.Written.{compact_text}
use Rattle.al_fields.specs.Members.{object_of}
use Rattle.serde_json.specs.Data.{array, item, no_items}
use Rattle.al_json.specs.Alarms.{alarm_tree}
use Rattle.al_json.specs.Histories.{operator_tree, status_tree}

-- the state of one row of the inventory
with_link : State
with_link =
    record start {
      inventory = Some (record {
        identities = (record { name = codes "ex:link"; base = codes "ietf-alarms:alarm-type-id" }) ∷ [];
        rows = (record {
          type_id = codes "ex:link";
          qualifier = [];
          resources = [];
          will_clear = true;
          severities = 0;
          description = codes "Link";
          event_type = CommunicationsAlarm;
        }) ∷ [];
      });
    }

-- raised at 2000 with the text `down`, and at 4000 with another text
still_down : AlarmState
still_down =
    record {
      key = record { resource = codes "eth1"; type_id = codes "ex:link"; qualifier = [] };
      created = 2000;
      raised = 2000;
      changed = 4000;
      cleared = false;
      severity = Major;
      text = codes "still down";
      statuses = (record { time = 4000; status = Active Major; text = codes "still down" }) ∷ (record { time = 2000; status = Active Major; text = codes "down" }) ∷ [];
      operators = [];
    }

still_down_text : compact_text (object_of ((codes "ietf-alarms:alarm", Some (array (item (alarm_tree with_link sides.List still_down) no_items))) ∷ [])) ≡ codes "{\"ietf-alarms:alarm\":[{\"alarm-text\":\"still down\",\"alarm-type-id\":\"ex:link\",\"alarm-type-qualifier\":\"\",\"ietf-alarms-x733:event-type\":\"communications-alarm\",\"is-cleared\":false,\"last-changed\":\"1970-01-01T00:00:04.000Z\",\"last-raised\":\"1970-01-01T00:00:02.000Z\",\"perceived-severity\":\"major\",\"resource\":\"eth1\",\"status-change\":[{\"alarm-text\":\"still down\",\"perceived-severity\":\"major\",\"time\":\"1970-01-01T00:00:04.000Z\"},{\"alarm-text\":\"down\",\"perceived-severity\":\"major\",\"time\":\"1970-01-01T00:00:02.000Z\"}],\"time-created\":\"1970-01-01T00:00:02.000Z\"}]}"
unfolding with_link still_down alarm_tree status_tree operator_tree stamp_text day_after escape_byte
still_down_text = refl
