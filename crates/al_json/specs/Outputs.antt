-- What an action answers (RFC 8632, outputs of `purge-alarms`, `compress-alarms` and those of the shelf).
use Rattle.std.specs.Prelude.{ℕ, List, [], ◌∷◌, Option, None, Some, codes}
use Rattle.al_fields.specs.Members.{object_of}
use Rattle.al_uri.specs.declared.target.Target.{Target}
use Rattle.al_uri.specs.declared.target.Target.TheVariants as targets
use Rattle.serde_json.specs.Data.{Data, number, unsigned}

-- the name of the count that an action answers, none where the resource is no action that answers one
abbrev pub counted_by : Target → Option (List ℕ)
counted_by targets.HostMeta = None
counted_by targets.Alarms = None
counted_by targets.Control = None
counted_by targets.MaxChanges = None
counted_by targets.NotifyMode = None
counted_by targets.NotifyLevel = None
counted_by (targets.Shelving spot) = None
counted_by (targets.OneShelf name spot) = None
counted_by targets.AlarmInventory = None
counted_by targets.Summary = None
counted_by targets.AlarmList = None
counted_by targets.AlarmCount = None
counted_by targets.AlarmsChanged = None
counted_by (targets.OneAlarm key) = None
counted_by (targets.SetState key) = None
counted_by targets.PurgeAlarms = Some (codes "purged-alarms")
counted_by targets.CompressAlarms = Some (codes "compressed-alarms")
counted_by targets.ShelvedAlarms = None
counted_by targets.ShelvedCount = None
counted_by targets.ShelvedChanged = None
counted_by (targets.OneShelved key) = None
counted_by targets.PurgeShelved = Some (codes "purged-alarms")
counted_by targets.CompressShelved = Some (codes "compressed-alarms")
counted_by targets.Report = None
counted_by targets.Inventory = None
counted_by (targets.NotificationLog start) = None
counted_by (targets.JournalPage start) = None

-- what an action answers with this count under its name
abbrev pub output_of : List ℕ → ℕ → Data
output_of name count = object_of ((codes "ietf-alarms:output", Some (object_of ((name, Some (number (unsigned count))) ∷ []))) ∷ [])
