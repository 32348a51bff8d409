-- Alarms as a list: what stays where nothing touches any, and what changes where something does.
use Rattle.std.proofs.Common.{◌≡◌, ◌≢◌, ◌≤◌, Bool, true, false, cond, ◌&&◌, ◌||◌, Option, None, Some, List, [], ◌∷◌, ◌++◌, map, length, refl, ap, ◌∙◌, subst, arith}
use Rattle.std.specs.List.{AllByRecursion, cons_option, filter_map, find, list_any}
use Rattle.std.specs.Option.{is_some, option_map}
use Rattle.al_model.proofs.Tools.{none_true}

pub map-filter_map : {X Y Z : Type 0} (g : Y → Z) (f : X → Option Y) (xs : List X) → map g (filter_map f xs) ≡ filter_map (λ x. option_map g (f x)) xs
map-filter_map g f [] = refl
map-filter_map {X} {Y} {Z} g f (x ∷ xs) = by (f x) (map-filter_map g f xs)
  where
    further : List Z
    further = filter_map (λ x. option_map g (f x)) xs

    by : (o : Option Y) → map g (filter_map f xs) ≡ further → map g (cons_option o (filter_map f xs)) ≡ cons_option (option_map g o) further
    by None same = same
    by (Some y) same = ap (λ zs. g y ∷ zs) same

pub length-filter_map : {X Y : Type 0} (f : X → Option Y) (xs : List X) → length (filter_map f xs) ≤ length xs
length-filter_map f [] = omega arith
length-filter_map {X} {Y} f (x ∷ xs) = by (f x) (length-filter_map f xs)
  where
    by : (o : Option Y) → length (filter_map f xs) ≤ length xs → length (cons_option o (filter_map f xs)) ≤ length (x ∷ xs)
    by None h = omega arith
    by (Some y) h = omega arith

-- where none is touched, all live on
pub all_live : {X : Type 0} (f : X → Option X) (p : X → Bool) → ((x : X) → p x ≡ false → f x ≡ Some x) → (xs : List X) → list_any p xs ≡ false → filter_map f xs ≡ xs
all_live f p lives [] h = refl
all_live f p lives (x ∷ xs) h =
    let parts = none_true (p x) (list_any p xs) h in
    ap (λ o. cons_option o (filter_map f xs)) (lives x parts.0) ∙ ap (λ ys. x ∷ ys) (all_live f p lives xs parts.1)

-- where all live on, none is touched
pub none_touched : {X : Type 0} (f : X → Option X) (p : X → Bool) (P : X → Type 0) → ((x : X) → P x → p x ≡ true → f x ≢ Some x) → (xs : List X) → AllByRecursion P xs → filter_map f xs ≡ xs → list_any p xs ≡ false
none_touched f p P differs [] all same = refl
none_touched {X} f p P differs (x ∷ xs) all same = by (f x) refl (p x) refl same (none_touched f p P differs xs all.1)
  where
    none : (y : X) → f x ≡ Some y → (b : Bool) → p x ≡ b → y ≡ x → b ≡ false
    none y is true touches e = absurd (differs x all.0 touches (is ∙ ap Some e))
    none y is false touches e = refl

    by : (o : Option X) → f x ≡ o → (b : Bool) → p x ≡ b → cons_option o (filter_map f xs) ≡ x ∷ xs → (filter_map f xs ≡ xs → list_any p xs ≡ false) → (p x || list_any p xs) ≡ false
    by None gone b touches e more = let fewer = length-filter_map f xs in let same_length = ap length e in absurd (omega arith)
    by (Some y) is b touches e more =
        let first : y ≡ x = cc in
        let further : filter_map f xs ≡ xs = cc in
        ap (λ c. c || list_any p xs) (touches ∙ none y is b touches first) ∙ more further

-- a test that finds something
pub found : {X : Type 0} (p : X → Bool) (xs : List X) → is_some (find p xs) ≡ list_any p xs
found p [] = refl
found {X} p (x ∷ xs) = by (p x) (found p xs)
  where
    by : (b : Bool) → is_some (find p xs) ≡ list_any p xs → is_some (cond b (Some x) (find p xs)) ≡ (b || list_any p xs)
    by true h = refl
    by false h = h

-- what is found passes no other test where none does that passes both
pub found_fails : {X : Type 0} (p q : X → Bool) (xs : List X) (x : X) → find p xs ≡ Some x → list_any (λ y. p y && q y) xs ≡ false → q x ≡ false
found_fails p q [] x is none = absurd (cc)
found_fails {X} p q (y ∷ ys) x is none = by (p y) is none (found_fails p q ys x)
  where
    by : (b : Bool) → cond b (Some y) (find p ys) ≡ Some x → ((b && q y) || list_any (λ z. p z && q z) ys) ≡ false → (find p ys ≡ Some x → list_any (λ z. p z && q z) ys ≡ false → q x ≡ false) → q x ≡ false
    by true is none more = let same : y ≡ x = cc in subst (λ z. q z ≡ false) same (none_true (q y) (list_any (λ z. p z && q z) ys) none).0
    by false is none more = more is none

-- a test of two tests fails for all where one does
pub none_of_both : {X : Type 0} (p q : X → Bool) (xs : List X) → list_any p xs ≡ false → list_any (λ x. p x && q x) xs ≡ false
none_of_both p q [] h = refl
none_of_both p q (x ∷ xs) h =
    let parts = none_true (p x) (list_any p xs) h in
    ap (λ b. (b && q x) || list_any (λ y. p y && q y) xs) parts.0 ∙ none_of_both p q xs parts.1

pub any_append : {X : Type 0} (p : X → Bool) (xs : List X) (y : X) (ys : List X) → p y ≡ true → list_any p (xs ++ y ∷ ys) ≡ true
any_append p [] y ys h = ap (λ b. b || list_any p ys) h
any_append {X} p (x ∷ xs) y ys h = by (p x) (any_append p xs y ys h)
  where
    by : (b : Bool) → list_any p (xs ++ y ∷ ys) ≡ true → (b || list_any p (xs ++ y ∷ ys)) ≡ true
    by true more = refl
    by false more = more

pub any_map : {X Y : Type 0} (p : Y → Bool) (q : X → Bool) (f : X → Y) → ((x : X) → p (f x) ≡ q x) → (xs : List X) → list_any p (map f xs) ≡ list_any q xs
any_map p q f same [] = refl
any_map p q f same (x ∷ xs) = ap (λ b. b || list_any p (map f xs)) (same x) ∙ ap (λ b. q x || b) (any_map p q f same xs)
