-- The trees of notes (RFC 8632, notifications `alarm-notification` and `operator-action`), and of the project's own `notification-log`.
use Rattle.std.specs.Prelude.{ℕ, List, [], ◌∷◌, Option, None, Some, codes, map, option_map}
use Rattle.al_base.specs.Names.{state_name, status_name}
use Rattle.al_base.specs.declared.operator.OperatorState.{OperatorState}
use Rattle.al_base.specs.declared.severity.Status.{Status}
use Rattle.al_base.specs.declared.text.Text.{Text}
use Rattle.al_fields.specs.Members.{list_of, object_of}
use Rattle.al_ids.specs.declared.key.AlarmKey.{AlarmKey}
use Rattle.al_notify.specs.Logs.{LogView, oldest_of, page_of}
use Rattle.al_notify.specs.declared.note.Note.{Note}
use Rattle.al_notify.specs.declared.note.NoteBody.{NoteBody}
use Rattle.al_notify.specs.declared.note.NoteBody.TheVariants as bodies
use Rattle.serde_json.specs.Data.{Data, number, string, unsigned}
use Rattle.al_json.specs.Histories.{moment}

abbrev pub notification_fields : ℕ → AlarmKey → Status → Text → List (List ℕ × Option Data)
notification_fields time key status text =
    (codes "alarm-text", Some (string text))
    ∷ (codes "alarm-type-id", Some (string key.type_id))
    ∷ (codes "alarm-type-qualifier", Some (string key.qualifier))
    ∷ (codes "perceived-severity", Some (string (status_name status)))
    ∷ (codes "resource", Some (string key.resource))
    ∷ (codes "time", Some (moment time))
    ∷ []

unfoldable pub notification_tree : ℕ → AlarmKey → Status → Text → Data
notification_tree time key status text = object_of (notification_fields time key status text)

abbrev pub action_fields : ℕ → AlarmKey → Text → OperatorState → Option Text → List (List ℕ × Option Data)
action_fields time key operator state text =
    (codes "alarm-type-id", Some (string key.type_id))
    ∷ (codes "alarm-type-qualifier", Some (string key.qualifier))
    ∷ (codes "operator", Some (string operator))
    ∷ (codes "resource", Some (string key.resource))
    ∷ (codes "state", Some (string (state_name state)))
    ∷ (codes "text", option_map string text)
    ∷ (codes "time", Some (moment time))
    ∷ []

unfoldable pub action_tree : ℕ → AlarmKey → Text → OperatorState → Option Text → Data
action_tree time key operator state text = object_of (action_fields time key operator state text)

-- what a note tells of a status, and what of an operator
abbrev pub told_by : ℕ → NoteBody → Option Data
told_by time (bodies.Status key status text) = Some (notification_tree time key status text)
told_by time (bodies.Action key operator state text) = None

abbrev pub done_by : ℕ → NoteBody → Option Data
done_by time (bodies.Status key status text) = None
done_by time (bodies.Action key operator state text) = Some (action_tree time key operator state text)

abbrev pub note_fields : Note → List (List ℕ × Option Data)
note_fields note =
    (codes "event-time", Some (moment note.time))
    ∷ (codes "ietf-alarms:alarm-notification", told_by note.time note.body)
    ∷ (codes "ietf-alarms:operator-action", done_by note.time note.body)
    ∷ (codes "number", Some (number (unsigned note.number)))
    ∷ []

unfoldable pub note_tree : Note → Data
note_tree note = object_of (note_fields note)

-- the page of the log that begins with the note of this number
abbrev pub log_fields : LogView → ℕ → List (List ℕ × Option Data)
log_fields log from =
    (codes "note", list_of (map note_tree (page_of log from)))
    ∷ (codes "oldest", Some (number (unsigned (oldest_of log))))
    ∷ (codes "sent", Some (number (unsigned log.sent)))
    ∷ []

unfoldable pub log_tree : LogView → ℕ → Data
log_tree log from = object_of (log_fields log from)
