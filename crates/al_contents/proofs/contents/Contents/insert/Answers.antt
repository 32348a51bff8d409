use Rattle.std.proofs.Common.{◌≡◌, ◌+◌, ◌<◌, ◌≤◌, ◌^◌, length, ap, sym, subst, ◌∙◌, arith, rules, vec_len}
use Rattle.std.specs.List.{insert}
use Rattle.al_contents.specs.Places.{AreSides}
use Rattle.al_contents.specs.Views.{AlarmView, is_marked, is_unmarked, states}
use Rattle.al_contents.proofs.Editing.{KeepMost, has_room, inserted_is, inserted_maxes, inserted_states, side_fits, with_all, with_these}
use Rattle.al_contents.proofs.Parting.{all_small}
use Rattle.al_contents.proofs.Sides.{length-map}
use Rattle.al_contents.proofs.contents.Contents.insert.Goals as goal

pub put_in_place-requires-clause-listed : goal.put_in_place-requires-clause-listed
put_in_place-requires-clause-listed c =
    let inside = c.self.inside in
    let room = has_room _ _ _ _ _ (ap (λ t. t.room) c.self.view_is) c.requires.room in
    let fits = side_fits is_unmarked inside.alarms.items inside.listed.items c.self.invariant.0.listed in
    let places : vec_len inside.listed ≡ length inside.listed.items = search rules in
    let alarms : vec_len inside.alarms ≡ length inside.alarms.items = search rules in
    omega (arith, room.1, fits.0, places, alarms)

pub put_in_place-requires-clause-shelved : goal.put_in_place-requires-clause-shelved
put_in_place-requires-clause-shelved c =
    let inside = c.self.inside in
    let room = has_room _ _ _ _ _ (ap (λ t. t.room) c.self.view_is) c.requires.room in
    let fits = side_fits is_marked inside.alarms.items inside.shelved.items c.self.invariant.0.shelved in
    let places : vec_len inside.shelved ≡ length inside.shelved.items = search rules in
    let alarms : vec_len inside.alarms ≡ length inside.alarms.items = search rules in
    omega (arith, room.2, fits.0, places, alarms)

pub put_in_place-requires-clause-listed_small : goal.put_in_place-requires-clause-listed_small
put_in_place-requires-clause-listed_small c =
    let inside = c.self.inside in
    let fits = side_fits is_unmarked inside.alarms.items inside.listed.items c.self.invariant.0.listed in
    let few : length inside.alarms.items < 2 ^ 64 = search rules in
    all_small (length inside.alarms.items) (2 ^ 64) inside.listed.items few fits.1

pub put_in_place-requires-clause-shelved_small : goal.put_in_place-requires-clause-shelved_small
put_in_place-requires-clause-shelved_small c =
    let inside = c.self.inside in
    let fits = side_fits is_marked inside.alarms.items inside.shelved.items c.self.invariant.0.shelved in
    let few : length inside.alarms.items < 2 ^ 64 = search rules in
    all_small (length inside.alarms.items) (2 ^ 64) inside.shelved.items few fits.1

pub invariant_of-self : goal.invariant_of-self
invariant_of-self c =
    let inside = c.self.inside in
    let kept = c.self.invariant in
    let did = c.insert.ensures in
    let put = c.put_in_place.ensures in
    let room = has_room _ _ _ _ _ (ap (λ t. t.room) c.self.view_is) c.requires.room in
    let ok = did.succeeds room.0 in
    let items : c.insert.new.self.items ≡ insert inside.alarms.items c.args.place c.args.alarm = inserted_is c.insert.result _ _ _ ok did.items in
    let count : vec_len c.insert.new.self ≡ vec_len inside.alarms + 1 = inserted_is c.insert.result _ _ _ ok did.len in
    let same : length inside.alarms.items ≡ length c.args.self.now.state.alarms = sym (length-map (λ (w : AlarmView). w.state) inside.alarms.items) ∙ ap (λ t. length t.state.alarms) c.self.view_is in
    let within : c.args.place ≤ length inside.alarms.items = omega (arith, same, c.requires.within) in (
      subst (λ views. AreSides views c.put_in_place.new.listed.items c.put_in_place.new.shelved.items) (sym items) (put.sides inside.alarms.items within kept.0),
      omega (arith, count, room.1, put.listed_room),
      omega (arith, count, room.2, put.shelved_room),
      subst (KeepMost inside.max) (sym items) (inserted_maxes inside.max inside.alarms.items c.args.place c.args.alarm (c.requires.max ∙ sym (ap (λ t. t.state.max) c.self.view_is)) kept.3),
    )

pub returns : goal.returns
returns c =
    let inside = c.self.inside in
    let did = c.insert.ensures in
    let room = has_room _ _ _ _ _ (ap (λ t. t.room) c.self.view_is) c.requires.room in
    let items : c.insert.new.self.items ≡ insert inside.alarms.items c.args.place c.args.alarm = inserted_is c.insert.result _ _ _ (did.succeeds room.0) did.items in
    with_all _ c.args.self.now (states c.insert.new.self.items) with_these (λ s. insert s.alarms c.args.place c.args.alarm.state) c.self.view_is
    (ap states items ∙ inserted_states inside.alarms.items c.args.place c.args.alarm)
