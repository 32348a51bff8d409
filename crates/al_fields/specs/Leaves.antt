-- What members without members of their own say.
use Rattle.std.specs.Prelude.{Option, None, Some}
use Rattle.al_base.specs.Times.{stamp_text}
use Rattle.serde_json.specs.Data.{Data, array, boolean, item, no_items, null, number, string, unsigned}
use Rattle.al_fields.specs.declared.leaf.Leaf.{Leaf}
use Rattle.al_fields.specs.declared.leaf.Leaf.TheVariants as leaves

abbrev pub leaf_data : Leaf → Option Data
leaf_data leaves.Absent = None
leaf_data (leaves.Text text) = Some (string text.now)
leaf_data (leaves.Word word) = Some (string word.now)
leaf_data (leaves.Flag flag) = Some (boolean flag)
leaf_data (leaves.Number n) = Some (number (unsigned n))
leaf_data (leaves.Time time) = Some (string (stamp_text time))
leaf_data leaves.Empty = Some (array (item null no_items))
