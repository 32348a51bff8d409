-- The test of an inventory's lists says what building it does.
use Rattle.std.proofs.Common.{◌≡◌, true, false, List}
use Rattle.al_types.proofs.SoundTests.{decides_sound}
use Rattle.al_types.specs.Faults.{IsFirstFault, IsSound}
use Rattle.al_types.specs.Sound.{is_sound}
use Rattle.al_types.specs.declared.fault.InventoryFault.{InventoryFault}
use Rattle.al_types.specs.declared.fault.InventoryFault.TheVariants.{TooMany, DuplicateIdentity, UnknownBase, DuplicateRow, Memory}
use Rattle.al_types.specs.declared.row.Identity.{Identity}
use Rattle.al_types.specs.declared.row.Row.{Row}
use Rattle.al_base.proofs.TextTests.{fails}

pub sound_holds : (identities : List Identity) (rows : List Row) → IsSound identities rows → is_sound identities rows ≡ true
sound_holds identities rows sound = (decides_sound identities rows).1 sound

faulty : (identities : List Identity) (rows : List Row) (fault : InventoryFault) → IsFirstFault identities rows fault → IsSound identities rows → ⊥
faulty identities rows TooMany h sound = h sound.few
faulty identities rows (DuplicateIdentity n) h sound = sound.names n h.1.0
faulty identities rows (UnknownBase n) h sound = sound.bases n h.2.0
faulty identities rows (DuplicateRow n) h sound = sound.kinds n h.3.0
faulty identities rows Memory h sound = h

pub unsound_fails : (identities : List Identity) (rows : List Row) (fault : InventoryFault) → IsFirstFault identities rows fault → is_sound identities rows ≡ false
unsound_fails identities rows fault h = fails (is_sound identities rows) (decides_sound identities rows) (faulty identities rows fault h)
