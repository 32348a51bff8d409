-- One step of reading the items of a class.
use Rattle.std.proofs.Common.{◌≡◌, ◌<◌, ℕ, zero, suc, Bool, true, false, not, ◌&&◌, List, [], ◌∷◌, ◌++◌, length, drop, Result, Ok, Err, refl, ap, sym, ◌∙◌, arith}
use Rattle.al_pattern.specs.declared.fault.Fault.{Fault}
use Rattle.al_pattern.specs.declared.letter.Item.{Item}
use Rattle.al_pattern.specs.Bytes.{begins_with}
use Rattle.al_pattern.specs.Faults.{◌>>=◌}
use Rattle.al_pattern.specs.Classes.{item_at, items_from}

-- where the class doesn't end, the next step reads an item
pub items_from-item : (steps : ℕ) (is_first : Bool) (items : List Item) (text : List ℕ) → (not is_first && begins_with 93 text) ≡ false
    → items_from (suc steps) is_first items text ≡ (item_at is_first text >>= λ x. items_from steps false (items ++ x.0 ∷ []) x.1)
unfolding items_from
items_from-item steps is_first items text more = rw more refl

pub items_from-end : (steps : ℕ) (is_first : Bool) (items : List Item) (text : List ℕ) → (not is_first && begins_with 93 text) ≡ true
    → items_from (suc steps) is_first items text ≡ Ok (items, drop 1 text)
unfolding items_from
items_from-end steps is_first items text ends = rw ends refl

pub items_next : (steps : ℕ) (is_first : Bool) (items : List Item) (text : List ℕ) (item : Item) (after : List ℕ) (whole : Result (List Item × List ℕ) Fault)
    → (not is_first && begins_with 93 text) ≡ false → item_at is_first text ≡ Ok (item, after)
    → length after < length text → length text < steps → items_from steps is_first items text ≡ whole
    → (n : ℕ) × (length after < n) × (items_from n false (items ++ item ∷ []) after ≡ whole)
items_next zero is_first items text item after whole more read shorter enough e = absurd (omega arith)
items_next (suc steps) is_first items text item after whole more read shorter enough e =
    (steps, omega arith, sym (items_from-item steps is_first items text more ∙ ap (λ r. r >>= λ x. items_from steps false (items ++ x.0 ∷ []) x.1) read) ∙ e)

pub items_fail : (steps : ℕ) (is_first : Bool) (items : List Item) (text : List ℕ) (fault : Fault) (whole : Result (List Item × List ℕ) Fault)
    → (not is_first && begins_with 93 text) ≡ false → item_at is_first text ≡ Err fault
    → length text < steps → items_from steps is_first items text ≡ whole → whole ≡ Err fault
items_fail zero is_first items text fault whole more read enough e = absurd (omega arith)
items_fail (suc steps) is_first items text fault whole more read enough e =
    sym e ∙ items_from-item steps is_first items text more ∙ ap (λ r. r >>= λ x. items_from steps false (items ++ x.0 ∷ []) x.1) read

pub items_end : (steps : ℕ) (is_first : Bool) (items : List Item) (text : List ℕ) (whole : Result (List Item × List ℕ) Fault)
    → (not is_first && begins_with 93 text) ≡ true
    → length text < steps → items_from steps is_first items text ≡ whole → whole ≡ Ok (items, drop 1 text)
items_end zero is_first items text whole ends enough e = absurd (omega arith)
items_end (suc steps) is_first items text whole ends enough e = sym e ∙ items_from-end steps is_first items text ends
