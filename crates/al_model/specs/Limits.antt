-- How long the texts and lists of requests, events and entries may be, how great their numbers, and of what form.
use Rattle.std.specs.Prelude.{◌≢◌, ℕ, ◌≤◌, ◌<◌, ◌^◌, ⊤, Option, IfSome, List, All, length}
use Rattle.std.specs.List.{AllPairs}
use Rattle.al_base.specs.Identifiers.{IsTypeName}
use Rattle.al_base.specs.Limits.{IsAge, IsAlarmText, IsDescription, IsFilterName, IsOperatorName, IsOperatorText, IsPatternText, IsQualifier, IsResourceText, IsSeveritySet, IsShelfName, IsStatusChanges, last_stamp, most_row_resources, most_shelf_resources, most_shelf_types}
use Rattle.al_base.specs.declared.operator.OperatorState.{OperatorState}
use Rattle.al_ids.specs.Matches.{IsMatch}
use Rattle.al_ids.specs.declared.key.AlarmKey.{AlarmKey}
use Rattle.al_pattern.specs.Reading.{tree_of}
use Rattle.al_pattern.specs.Trees.{IsSpelled}
use Rattle.al_select.specs.declared.compress.CompressFilter.{CompressFilter}
use Rattle.al_select.specs.declared.purge.PurgeFilter.{PurgeFilter}
use Rattle.al_shelf.specs.declared.shelf.Shelf.{Shelf}
use Rattle.al_shelf.specs.declared.shelf.TypeMatch.{TypeMatch}
use Rattle.al_shelf.specs.declared.spot.Spot.{Spot}
use Rattle.al_types.specs.Faults.{IsSound}
use Rattle.al_types.specs.Inventories.{InventoryView}
use Rattle.al_types.specs.declared.row.Identity.{Identity}
use Rattle.al_types.specs.declared.row.Row.{Row}
use Rattle.al_model.specs.declared.entry.Entry.{Entry}
use Rattle.al_model.specs.declared.event.Event.{Event}
use Rattle.al_model.specs.declared.event.Event.TheVariants as events
use Rattle.al_model.specs.declared.request.Request.{Request}
use Rattle.al_model.specs.declared.request.Request.TheVariants as requests
use Rattle.al_base.specs.Operators.{IsOperators}
use Rattle.al_ids.specs.Limits.{IsKeyWithin}
use Rattle.al_shelf.specs.Limits.{IsSpotWithin}

-- ---- keys and reports

pub record IsReportWithin (key : AlarmKey) (text : List ℕ) : Type 0 where
  pub key_within : IsKeyWithin key
  pub text_within : IsAlarmText text

-- ---- operator actions

pub record IsOperateWithin (key : AlarmKey) (state : OperatorState) (operator : List ℕ) (text : Option (List ℕ)) : Type 0 where
  pub key_within : IsKeyWithin key
  pub state_within : IsOperators state
  pub operator_within : IsOperatorName operator
  pub text_within : IfSome text IsOperatorText

-- ---- shelves

-- a pattern for qualifiers
pub record IsPatternWithin (pattern : List ℕ) : Type 0 where
  pub text : IsPatternText pattern
  pub spelled : IsSpelled (tree_of pattern) pattern

pub record IsTypeMatchWithin (m : TypeMatch) : Type 0 where
  pub type_id : IsTypeName m.type_id
  pub qualifier : IsPatternWithin m.qualifier

-- a shelf whose criteria are few, of their form, and not repeated
pub record IsShelfWithin (shelf : Shelf) : Type 0 where
  pub name : IsShelfName shelf.name
  pub few_resources : length shelf.resources ≤ most_shelf_resources
  pub resources : All IsMatch shelf.resources
  pub other_resources : AllPairs (λ a b. a ≢ b) shelf.resources
  pub few_types : length shelf.types ≤ most_shelf_types
  pub types : All IsTypeMatchWithin shelf.types
  pub other_types : AllPairs (λ a b. a ≢ b) shelf.types
  pub description : IfSome shelf.description IsDescription

-- a shelf and its position, which an event has in one byte
pub record IsPutWithin (shelf : Shelf) (at : ℕ) : Type 0 where
  pub shelf_within : IsShelfWithin shelf
  pub at_within : at < 2 ^ 8

pub record IsSpottedWithin (shelf : Shelf) (spot : Spot) : Type 0 where
  pub shelf_within : IsShelfWithin shelf
  pub spot_within : IsSpotWithin spot

-- ---- filters

pub record IsPurgeWithin (filter : PurgeFilter) : Type 0 where
  pub age : IfSome filter.age IsAge
  pub user : IfSome filter.user IsFilterName

pub record IsCompressWithin (filter : CompressFilter) : Type 0 where
  pub resource : IfSome filter.resource IsMatch
  pub type_id : IfSome filter.type_id IsTypeName
  pub qualifier : IfSome filter.qualifier IsQualifier

-- ---- inventories

pub record IsIdentityWithin (identity : Identity) : Type 0 where
  pub name : IsTypeName identity.name
  pub base : IsTypeName identity.base

pub record IsRowWithin (row : Row) : Type 0 where
  pub type_id : IsTypeName row.type_id
  pub qualifier : IsQualifier row.qualifier
  pub few_resources : length row.resources ≤ most_row_resources
  pub resources : All IsResourceText row.resources
  pub severities : IsSeveritySet row.severities
  pub description : IsDescription row.description

-- lists that make an inventory, of members within limits
pub record IsInventoryWithin (inventory : InventoryView) : Type 0 where
  pub sound : IsSound inventory.identities inventory.rows
  pub identities : All IsIdentityWithin inventory.identities
  pub rows : All IsRowWithin inventory.rows

-- ---- requests, events and entries

-- The event is within limits.
unfoldable pub IsEventWithin : Event → Type 0
IsEventWithin (events.Report key status text) = IsReportWithin key text
IsEventWithin (events.Operate key state operator text) = IsOperateWithin key state operator text
IsEventWithin (events.SetMax max) = IfSome max IsStatusChanges
IsEventWithin (events.SetNotify rule) = ⊤
IsEventWithin (events.PutShelf shelf at) = IsPutWithin shelf at
IsEventWithin (events.DropShelf name) = IsShelfName name
IsEventWithin (events.Purge side filter) = IsPurgeWithin filter
IsEventWithin (events.Compress side filter) = IsCompressWithin filter
IsEventWithin (events.Install inventory) = IsInventoryWithin inventory

-- The request is within limits.
unfoldable pub IsRequestWithin : Request → Type 0
IsRequestWithin (requests.Report key status text) = IsReportWithin key text
IsRequestWithin (requests.Operate key state operator text) = IsOperateWithin key state operator text
IsRequestWithin (requests.SetMax max) = IfSome max IsStatusChanges
IsRequestWithin (requests.SetMode mode) = ⊤
IsRequestWithin (requests.SetLevel level) = ⊤
IsRequestWithin (requests.CreateShelf shelf spot) = IsSpottedWithin shelf spot
IsRequestWithin (requests.PutShelf shelf spot) = IsSpottedWithin shelf spot
IsRequestWithin (requests.DropShelf name) = IsShelfName name
IsRequestWithin (requests.Purge side filter) = IsPurgeWithin filter
IsRequestWithin (requests.Compress side filter) = IsCompressWithin filter
IsRequestWithin (requests.Install inventory) = IsInventoryWithin inventory

-- The entry is within limits.
pub record IsEntryWithin (e : Entry) : Type 0 where
  pub time : e.time ≤ last_stamp
  pub origin : e.origin < 2 ^ 16
  pub event : IsEventWithin e.event
