use Rattle.std.proofs.Common.{refl, ◌≡◌, ◌<◌, ◌+◌, ◌-◌, Bool, cond, List, length, sym, ◌∙◌, ap, subst, arith}
use Rattle.std.specs.List.{insert}
use Rattle.std.specs.Vec.{vec_capacity, vec_len}
use Rattle.al_shelf.specs.Places.{AreShelves, without}
use Rattle.al_shelf.specs.declared.shelf.Shelf.{Shelf}
use Rattle.al_shelf.proofs.Puts.{inserted_sound, room_left}
use Rattle.al_shelf.proofs.shelves.Shelves.put.Goals as goal

pub returns-clause-shelves : goal.returns-clause-shelves
returns-clause-shelves c =
    let others = without c.args.shelf.name c.args.self.now.shelves in
    let left : c.self.inside.shelves.items ≡ others = ap (λ v. v.shelves) c.self.view_is ∙ c.remove.ensures.shelves in
    let spare : vec_capacity c.self.inside.shelves - vec_len c.self.inside.shelves ≡ c.remove.new.self.spare = ap (λ v. v.spare) c.self.view_is in
    let room = room_left c.args.shelf.name c.args.self.now.shelves c.args.self.now.spare c.remove.new.self.spare c.requires.room
    (sym (ap (λ l. c.remove.new.self.spare + length l) c.remove.ensures.shelves) ∙ c.remove.ensures.room) in
    let done = c.insert.ensures.succeeds (omega arith) in
    let put : c.insert.new.self.items ≡ insert c.self.inside.shelves.items c.args.at c.args.shelf =
    c.insert.ensures.items ∙ ap (λ (b : Bool). cond b (insert c.self.inside.shelves.items c.args.at c.args.shelf) c.self.inside.shelves.items) done
    in
    put ∙ ap (λ (l : List Shelf). insert l c.args.at c.args.shelf) left

pub returns-clause-room : goal.returns-clause-room
returns-clause-room c =
    let others = without c.args.shelf.name c.args.self.now.shelves in
    let left : c.self.inside.shelves.items ≡ others = ap (λ v. v.shelves) c.self.view_is ∙ c.remove.ensures.shelves in
    let spare : vec_capacity c.self.inside.shelves - vec_len c.self.inside.shelves ≡ c.remove.new.self.spare = ap (λ v. v.spare) c.self.view_is in
    let kept = sym (ap (λ l. c.remove.new.self.spare + length l) c.remove.ensures.shelves) ∙ c.remove.ensures.room in
    let room = room_left c.args.shelf.name c.args.self.now.shelves c.args.self.now.spare c.remove.new.self.spare c.requires.room kept in
    let lt : vec_len c.self.inside.shelves < vec_capacity c.self.inside.shelves = omega arith in
    let done = c.insert.ensures.succeeds lt in
    let longer = c.insert.ensures.len ∙ ap (λ (b : Bool). cond b (vec_len c.self.inside.shelves + 1) (vec_len c.self.inside.shelves)) done in
    let same = c.insert.ensures.in_place lt in
    let count = ap length left in
    let long = c.self.inside.shelves.ok.0 in
    let long_then = c.insert.new.self.ok.0 in
    omega arith

pub invariant_of-self : goal.invariant_of-self
invariant_of-self c =
    let others = without c.args.shelf.name c.args.self.now.shelves in
    let left : c.self.inside.shelves.items ≡ others = ap (λ v. v.shelves) c.self.view_is ∙ c.remove.ensures.shelves in
    let sound : AreShelves others = subst AreShelves left c.self.invariant in
    subst AreShelves (sym (returns-clause-shelves c)) (inserted_sound c.args.shelf c.args.self.now.shelves others c.args.at refl sound c.requires.within c.requires.few)
