-- What the laws need of tests, options and lists.
use Rattle.std.proofs.Common.{◌≡◌, Bool, true, false, cond, not, ◌&&◌, ◌||◌, Option, None, Some, List, [], ◌∷◌, ◌++◌, map, refl, sym}
use Rattle.std.specs.List.{AllByRecursion, cons_option, filter, filter_map}
use Rattle.std.specs.Option.{IfSome, is_some, option_or}

-- ---- tests

-- what holds of both choices holds of what is chosen
pub either : {X : Type 0} (P : X → Type 0) (b : Bool) (x y : X) → (b ≡ true → P x) → (b ≡ false → P y) → P (cond b x y)
either P true x y at_true at_false = at_true refl
either P false x y at_true at_false = at_false refl

pub both_true : (a b : Bool) → (a && b) ≡ true → (a ≡ true) × (b ≡ true)
both_true true b h = (refl, h)
both_true false b h = absurd (cc)

pub none_true : (a b : Bool) → (a || b) ≡ false → (a ≡ false) × (b ≡ false)
none_true true b h = absurd (cc)
none_true false b h = (refl, h)

pub not_true : (b : Bool) → not b ≡ true → b ≡ false
not_true true h = sym h
not_true false h = refl

pub not_false : (b : Bool) → not b ≡ false → b ≡ true
not_false true h = refl
not_false false h = sym h

-- ---- options

pub none_of_two : {X : Type 0} (a b : Option X) → option_or a b ≡ None → (a ≡ None) × (b ≡ None)
none_of_two None b h = (refl, h)
none_of_two (Some x) b h = absurd (cc)

pub is_none_at : {X : Type 0} (o : Option X) → is_some o ≡ false → o ≡ None
is_none_at None h = refl
is_none_at (Some x) h = absurd (cc)

pub if_weaker : {X : Type 0} (P Q : X → Type 0) → ((x : X) → P x → Q x) → (o : Option X) → IfSome o P → IfSome o Q
if_weaker P Q f None h = tt
if_weaker P Q f (Some x) h = f x h

-- ---- what holds of each

pub all_weaker : {X : Type 0} (P Q : X → Type 0) → ((x : X) → P x → Q x) → (xs : List X) → AllByRecursion P xs → AllByRecursion Q xs
all_weaker P Q f [] h = tt
all_weaker P Q f (x ∷ xs) h = (f x h.0, all_weaker P Q f xs h.1)

pub all_both : {X : Type 0} (P Q : X → Type 0) (xs : List X) → AllByRecursion P xs → AllByRecursion Q xs → AllByRecursion (λ x. P x × Q x) xs
all_both P Q [] h k = tt
all_both P Q (x ∷ xs) h k = ((h.0, k.0), all_both P Q xs h.1 k.1)

pub all_map : {X Y : Type 0} (f : X → Y) (P : X → Type 0) (Q : Y → Type 0) → ((x : X) → P x → Q (f x)) → (xs : List X) → AllByRecursion P xs → AllByRecursion Q (map f xs)
all_map f P Q each [] h = tt
all_map f P Q each (x ∷ xs) h = (each x h.0, all_map f P Q each xs h.1)

all_cons : {Y : Type 0} (Q : Y → Type 0) (o : Option Y) (ys : List Y) → IfSome o Q → AllByRecursion Q ys → AllByRecursion Q (cons_option o ys)
all_cons Q None ys h k = k
all_cons Q (Some y) ys h k = (h, k)

pub all_filter_map : {X Y : Type 0} (f : X → Option Y) (P : X → Type 0) (Q : Y → Type 0) → ((x : X) → P x → IfSome (f x) Q) → (xs : List X) → AllByRecursion P xs → AllByRecursion Q (filter_map f xs)
all_filter_map f P Q each [] h = tt
all_filter_map f P Q each (x ∷ xs) h = all_cons Q (f x) (filter_map f xs) (each x h.0) (all_filter_map f P Q each xs h.1)

pub all_filter : {X : Type 0} (P : X → Type 0) (p : X → Bool) (xs : List X) → AllByRecursion P xs → AllByRecursion P (filter p xs)
all_filter P p [] h = tt
all_filter P p (x ∷ xs) h =
    either (AllByRecursion P) (p x) (x ∷ filter p xs) (filter p xs) (λ _. (h.0, all_filter P p xs h.1)) (λ _. all_filter P p xs h.1)

pub all_append : {X : Type 0} (P : X → Type 0) (xs ys : List X) → AllByRecursion P xs → AllByRecursion P ys → AllByRecursion P (xs ++ ys)
all_append P [] ys h k = k
all_append P (x ∷ xs) ys h k = (h.0, all_append P xs ys h.1 k)
