-- Keys of shelves and alarms in a path (RFC 8040, section 3.5.3).
use Rattle.std.specs.Prelude.{ℕ, if◌then◌else◌, Result, Ok, Err, List, [], ◌∷◌}
use Rattle.al_base.specs.Identifiers.{is_type_name}
use Rattle.al_base.specs.Limits.{is_text, longest_qualifier, longest_resource, longest_shelf_name}
use Rattle.al_ids.specs.declared.key.AlarmKey.{AlarmKey}
use Rattle.al_shelf.specs.declared.spot.Spot.TheVariants.{Keep}
use Rattle.al_base.specs.Answers.{and_then}
use Rattle.al_uri.specs.TypeNames.{with_module}
use Rattle.al_uri.specs.declared.fault.UriFault.{UriFault}
use Rattle.al_uri.specs.declared.fault.UriFault.TheVariants.{BadKeys}
use Rattle.al_uri.specs.declared.place.Place.{Place}
use Rattle.al_uri.specs.declared.place.Place.TheVariants.{At}
use Rattle.al_uri.specs.declared.place.Way.{Way}
use Rattle.al_uri.specs.declared.place.Way.TheVariants.{To, ToShelf, ToAlarm, ToShelved}
use Rattle.al_uri.specs.declared.target.Target.TheVariants.{OneShelf, OneAlarm, OneShelved}

-- a key that is a text of so many bytes
unfoldable pub text_key : ℕ → ℕ → List ℕ → Result (List ℕ) UriFault
text_key least most key = if is_text least most key then Ok key else Err BadKeys

-- a key that names an alarm type, of the module `ietf-alarms` where it says none
unfoldable pub type_key : List ℕ → Result (List ℕ) UriFault
type_key key = if is_type_name (with_module key) then Ok (with_module key) else Err BadKeys

-- the three keys of an alarm
unfoldable pub alarm_key : List ℕ → List ℕ → List ℕ → Result AlarmKey UriFault
alarm_key resource_key type_key_text qualifier_key =
    and_then (text_key 1 longest_resource resource_key) (λ resource.
    and_then (type_key type_key_text) (λ type_id.
    and_then (text_key 0 longest_qualifier qualifier_key) (λ qualifier.
    Ok (record { resource = resource; type_id = type_id; qualifier = qualifier }))))

-- Where a way leads with these keys: a shelf has its name, an alarm its resource, type and qualifier, and no other node has keys.
unfoldable pub entered : Way → List (List ℕ) → Result Place UriFault
entered (To place) [] = Ok place
entered ToShelf (name ∷ []) = and_then (text_key 1 longest_shelf_name name) (λ shelf. Ok (At (OneShelf shelf Keep)))
entered ToAlarm (resource ∷ type_id ∷ qualifier ∷ []) = and_then (alarm_key resource type_id qualifier) (λ key. Ok (At (OneAlarm key)))
entered ToShelved (resource ∷ type_id ∷ qualifier ∷ []) = and_then (alarm_key resource type_id qualifier) (λ key. Ok (At (OneShelved key)))
entered way keys = Err BadKeys
