-- Steps of the loops over fields and elements.
use Rattle.std.proofs.Common.{◌≡◌, ℕ, suc, ◌+◌, ◌<◌, Bool, true, false, List, [], ◌∷◌, ◌++◌, Option, None, Some, drop, get_or, length, option_map, refl, ap, ◌∙◌, add-one, append_assoc, arith}
use Rattle.std.specs.Prelude.{is_some, nat_lt}
use Rattle.std.specs.List.{slice_get}
use Rattle.std.proofs.lemmas.Bool.Decides.{nat_tests}
use Rattle.std.proofs.Math.Seq.{drop-cons}
use Rattle.std.proofs.lemmas.Option.{get_or_from_slice_get, slice_get-get_or, slice_get_within}
use Rattle.json.specs.Print.{quoted}
use Rattle.serde_json.specs.Data.{Data}
use Rattle.serde_json.specs.View.{items_of}
use Rattle.serde_json.specs.Written.{compact_text, items_text}
use Rattle.al_fields.specs.Lengths.{saturated}
use Rattle.al_fields.specs.Members.{object_of, whole}
use Rattle.al_fields.specs.Texts.{item_text, member_text, single_text, some_text, text_of}

-- what remains at a place is what stands there and what remains behind it
pub next_at : {A : Type 0} (xs : List A) (i : ℕ) (x : A) → slice_get xs i ≡ Some x → drop i xs ≡ x ∷ drop (i + 1) xs
next_at xs i x h =
    rw add-one (drop-cons xs i x (slice_get_within xs i x h) ∙ ap (λ y. y ∷ drop (suc i) xs) (get_or_from_slice_get xs i x x h))

-- the text of a field that says something, and of one that doesn't
pub some_there : (later : Bool) (name : List ℕ) (said : Option Data) → is_some said ≡ true → some_text later name said ≡ member_text later name (text_of said)
some_there later name None h = absurd (cc)
some_there later name (Some d) h = refl

pub some_absent : (later : Bool) (name : List ℕ) (said : Option Data) → is_some said ≡ false → some_text later name said ≡ []
some_absent later name None h = refl
some_absent later name (Some d) h = absurd (cc)

later_next : (i : ℕ) → nat_lt 0 (i + 1) ≡ true
later_next i = grind (arith, nat_tests)

-- the text of the elements that remain at a place
pub next_item : (trees : List Data) (i : ℕ) → i < length trees → items_text (nat_lt 0 i) (items_of (drop i trees)) ≡ item_text trees i ++ items_text (nat_lt 0 (i + 1)) (items_of (drop (i + 1) trees))
next_item [] i h = absurd (omega arith)
next_item (t ∷ ts) i h =
    let x : Data = get_or (t ∷ ts) i t in
    let is : slice_get (t ∷ ts) i ≡ Some x = slice_get-get_or (t ∷ ts) i t h in
    rw (next_at (t ∷ ts) i x is, is, later_next i) (simp append_assoc)

-- an object of one member, where it says something and where it doesn't
pub whole_there : (name : List ℕ) (said : Option Data) → is_some said ≡ true → whole name said ≡ Some (object_of ((name, said) ∷ []))
whole_there name None h = absurd (cc)
whole_there name (Some d) h = refl

pub whole_absent : (name : List ℕ) (said : Option Data) → is_some said ≡ false → whole name said ≡ None
whole_absent name None h = refl
whole_absent name (Some d) h = absurd (cc)

pub whole_text : (name : List ℕ) (said : Option Data) → is_some said ≡ true → text_of (whole name said) ≡ single_text name (text_of said)
unfolding member_text
whole_text name None h = absurd (cc)
whole_text name (Some d) h = ap (λ t. 123 ∷ t) (grouped (quoted name) (compact_text d))
  where
    grouped : (a b : List ℕ) → a ++ 58 ∷ (b ++ 125 ∷ []) ≡ (a ++ 58 ∷ b) ++ 125 ∷ []
    grouped a b = simp append_assoc

pub whole_long : (name : List ℕ) (said : Option Data) → is_some said ≡ true → option_map (λ d. saturated (length (compact_text d))) (whole name said) ≡ Some (saturated (length (single_text name (text_of said))))
whole_long name None h = absurd (cc)
whole_long name (Some d) h = ap (λ t. Some (saturated (length t))) (whole_text name (Some d) refl)
