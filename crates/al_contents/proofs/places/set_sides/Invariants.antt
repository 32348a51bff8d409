use Rattle.std.proofs.Common.{◌≡◌, ◌≤◌, take, vec_len, vec_capacity}
use Rattle.al_contents.specs.Places.{AreSides}
use Rattle.al_contents.proofs.places.set_sides.Given as goal

abbrev pub invariant-loop-place : goal.invariant-loop-place
invariant-loop-place l = record {
  sides : AreSides (take l.place l.alarms) l.listed.items l.shelved.items;
  listed_few : vec_len l.listed ≤ l.place;
  shelved_few : vec_len l.shelved ≤ l.place;
  listed_room : vec_capacity l.listed ≡ vec_capacity l.fn.listed;
  shelved_room : vec_capacity l.shelved ≡ vec_capacity l.fn.shelved;
}
