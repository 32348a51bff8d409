-- The tree of names: where each leads (RFC 8040, section 3.3; RFC 8632, section 6; the nodes of the module `alarmd`).
use Rattle.std.specs.Prelude.{ℕ, ◌==◌, if◌then◌else◌, Bool, Option, None, Some, List, [], ◌∷◌, codes, drop}
use Rattle.std.specs.Cmp.Lexicographic.{pointwise}
use Rattle.std.specs.List.{starts_with}
use Rattle.al_uri.specs.declared.place.Place.{Place}
use Rattle.al_uri.specs.declared.place.Place.TheVariants.{Start, WellKnown, Restconf, Data, Operations, At}
use Rattle.al_uri.specs.declared.place.Way.{Way}
use Rattle.al_uri.specs.declared.place.Way.TheVariants.{To, ToShelf, ToAlarm, ToShelved}
use Rattle.al_shelf.specs.declared.spot.Spot.TheVariants.{Keep}
use Rattle.al_uri.specs.declared.target.Target.TheVariants.{HostMeta, Alarms, Control, MaxChanges, NotifyMode, NotifyLevel, Shelving, AlarmInventory, Summary, AlarmList, AlarmCount, AlarmsChanged, OneAlarm, SetState, PurgeAlarms, CompressAlarms, ShelvedAlarms, ShelvedCount, ShelvedChanged, PurgeShelved, CompressShelved, Report, Inventory, NotificationLog, JournalPage}

abbrev pub is_same : List ℕ → List ℕ → Bool
is_same a b = pointwise ◌==◌ a b

-- The names that stand at a place, each with the way that it leads. A shelf's spot and the start of a page are those without a query.
abbrev pub ways : Place → List (List ℕ × Way)
ways Start = (codes ".well-known", To WellKnown) ∷ (codes "restconf", To Restconf) ∷ []
ways WellKnown = (codes "host-meta", To (At HostMeta)) ∷ []
ways Restconf = (codes "data", To Data) ∷ (codes "operations", To Operations) ∷ []
ways Operations = (codes "alarmd:report", To (At Report)) ∷ []
ways Data =
    (codes "ietf-alarms:alarms", To (At Alarms))
    ∷ (codes "alarmd:inventory", To (At Inventory))
    ∷ (codes "alarmd:notification-log", To (At (NotificationLog 1)))
    ∷ (codes "alarmd:journal", To (At (JournalPage 0)))
    ∷ []
ways (At Alarms) =
    (codes "control", To (At Control))
    ∷ (codes "alarm-inventory", To (At AlarmInventory))
    ∷ (codes "summary", To (At Summary))
    ∷ (codes "alarm-list", To (At AlarmList))
    ∷ (codes "shelved-alarms", To (At ShelvedAlarms))
    ∷ []
ways (At Control) =
    (codes "max-alarm-status-changes", To (At MaxChanges))
    ∷ (codes "notify-status-changes", To (At NotifyMode))
    ∷ (codes "notify-severity-level", To (At NotifyLevel))
    ∷ (codes "alarm-shelving", To (At (Shelving Keep)))
    ∷ []
ways (At (Shelving spot)) = (codes "shelf", ToShelf) ∷ []
ways (At AlarmList) =
    (codes "alarm", ToAlarm)
    ∷ (codes "number-of-alarms", To (At AlarmCount))
    ∷ (codes "last-changed", To (At AlarmsChanged))
    ∷ (codes "purge-alarms", To (At PurgeAlarms))
    ∷ (codes "compress-alarms", To (At CompressAlarms))
    ∷ []
ways (At (OneAlarm key)) = (codes "set-operator-state", To (At (SetState key))) ∷ []
ways (At ShelvedAlarms) =
    (codes "shelved-alarm", ToShelved)
    ∷ (codes "number-of-shelved-alarms", To (At ShelvedCount))
    ∷ (codes "shelved-alarms-last-changed", To (At ShelvedChanged))
    ∷ (codes "purge-shelved-alarms", To (At PurgeShelved))
    ∷ (codes "compress-shelved-alarms", To (At CompressShelved))
    ∷ []
ways other = []

-- a name without the module `ietf-alarms`, where it is written with it
unfoldable pub unqualified : List ℕ → List ℕ
unqualified name = if starts_with ◌==◌ name (codes "ietf-alarms:") then drop 12 name else name

-- A name at the top is written as it stands in the table. Below the alarms the module `ietf-alarms` may be written before it.
abbrev pub plain_name : Place → List ℕ → List ℕ
plain_name (At target) name = unqualified name
plain_name other name = name

-- the way of a name, of these
abbrev pub way_of : List ℕ → List (List ℕ × Way) → Option Way
way_of name [] = None
way_of name (way ∷ rest) = if is_same name way.0 then Some way.1 else way_of name rest

-- where a name leads from a place
unfoldable pub child : Place → List ℕ → Option Way
child place name = way_of (plain_name place name) (ways place)
