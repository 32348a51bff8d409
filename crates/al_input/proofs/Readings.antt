-- What is read by the parts of a reading passes their tests.
use Rattle.std.proofs.Common.{◌≡◌, ◌≢◌, ℕ, suc, zero, ◌≤◌, ◌||◌, ◌&&◌, nat_le, Bool, true, false, if◌then◌else◌, Option, None, Some, Result, Ok, Err, IfOk, IfSome, List, [], ◌∷◌, length, refl, subst, ap, arith, unwrap_or, All}
use Rattle.std.specs.Bool.{Decides}
use Rattle.std.specs.List.{AllPairs, list_any}
use Rattle.std.specs.Prelude.{not}
use Rattle.std.proofs.lemmas.Bool.{false≢true}
use Rattle.std.proofs.lemmas.Bool.Decides.{nat_tests}
use Rattle.std.proofs.lemmas.List.Elements.{All-cons}
use Rattle.al_base.proofs.FormTests.{decides_text, decides_type_name}
use Rattle.al_base.specs.Identifiers.{IsTypeName, is_type_name}
use Rattle.al_base.specs.Limits.{IsText, is_text}
use Rattle.al_ids.specs.Matches.{IsMatch}
use Rattle.al_model.specs.Limits.{IsPatternWithin}
use Rattle.al_base.specs.Answers.{and_then, each, or_fault}
use Rattle.al_uri.specs.TypeNames.{with_module}
use Rattle.serde_json.specs.Data.{Data, Items}
use Rattle.serde_json.specs.Find.{as_array}
use Rattle.al_ids.proofs.MatchTests.{decides_match, decides_spelled_pattern}
use Rattle.al_ids.specs.Forms.{is_match, is_pattern_text}
use Rattle.al_input.specs.Members.{one_of, optional, read_some, required, value_at, with_default}
use Rattle.al_input.specs.Readers.{list, listed, number, passed, pattern, resource_match, set, string_of, text, type_name}
use Rattle.al_base.specs.Repeats.{repeats}
use Rattle.al_input.specs.declared.fault.InputFault.{InputFault}
use Rattle.al_input.specs.declared.fault.InputFault.TheVariants.{BadValue, Missing}

-- ---- readings one after the other

pub ok_then : {A B E : Type 0} (P : B → Type 0) (x : Result A E) (read : A → Result B E) → ((a : A) → x ≡ Ok a → IfOk (read a) P) → IfOk (and_then x read) P
ok_then P (Ok a) read h = h a refl
ok_then P (Err e) read h = tt

pub ok_value : {A E : Type 0} (P : A → Type 0) (x : Result A E) (a : A) → IfOk x P → x ≡ Ok a → P a
ok_value P x a h e = subst (λ r. IfOk r P) e h

pub ok_if : {A E : Type 0} (P : A → Type 0) (test : Bool) (x y : Result A E) → (test ≡ true → IfOk x P) → (test ≡ false → IfOk y P) → IfOk (if test then x else y) P
ok_if P true x y h k = h refl
ok_if P false x y h k = k refl

pub ok_passed : {A : Type 0} (P : A → Type 0) (test : A → Bool) (a : A) → (test a ≡ true → P a) → IfOk (passed test a) P
unfolding passed
ok_passed P test a h = ok_if P (test a) (Ok a) (Err BadValue) h (λ _. tt)

-- ---- members

pub ok_required : {A : Type 0} (P : A → Type 0) (plain qualified : List ℕ) (read : Data → Result A InputFault) → ((d : Data) → IfOk (read d) P) → (d : Data) → IfOk (required plain qualified read d) P
unfolding required
ok_required P plain qualified read h d =
    ok_then P (value_at plain qualified d) (λ found. and_then (or_fault Missing found) read) (λ found _. ok_then P (or_fault Missing found) read (λ value _. h value))

some_read : {A : Type 0} (P : A → Type 0) (read : Data → Result A InputFault) → ((d : Data) → IfOk (read d) P) → (found : Option Data) → IfOk (read_some read found) (λ o. IfSome o P)
some_read P read h None = tt
some_read P read h (Some d) = ok_then (λ o. IfSome o P) (read d) (λ a. Ok (Some a)) (λ a is. ok_value P (read d) a (h d) is)

pub ok_optional : {A : Type 0} (P : A → Type 0) (plain qualified : List ℕ) (read : Data → Result A InputFault) → ((d : Data) → IfOk (read d) P) → (d : Data) → IfOk (optional plain qualified read d) (λ o. IfSome o P)
unfolding optional
ok_optional P plain qualified read h d = ok_then (λ o. IfSome o P) (value_at plain qualified d) (read_some read) (λ found _. some_read P read h found)

or_this : {A : Type 0} (P : A → Type 0) (a : A) → P a → (o : Option A) → IfSome o P → P (unwrap_or o a)
or_this P a h None _ = h
or_this P a h (Some b) k = k

pub ok_default : {A : Type 0} (P : A → Type 0) (a : A) (plain qualified : List ℕ) (read : Data → Result A InputFault) → P a → ((d : Data) → IfOk (read d) P) → (d : Data) → IfOk (with_default a plain qualified read d) P
ok_default P a plain qualified read default h d =
    ok_then P (optional plain qualified read d) (λ o. Ok (unwrap_or o a)) (λ o is. or_this P a default o (ok_value (λ o. IfSome o P) (optional plain qualified read d) o (ok_optional P plain qualified read h d) is))

pub ok_one_of : {A : Type 0} (P : A → Type 0) (first second : Option A) → IfSome first P → IfSome second P → IfOk (one_of first second) (λ o. IfSome o P)
unfolding one_of
ok_one_of P None second h k = k
ok_one_of P (Some a) None h k = h
ok_one_of P (Some a) (Some b) h k = tt

-- ---- numbers and texts

and_true : (a b : Bool) → a && b ≡ true → (a ≡ true) × (b ≡ true)
and_true true b h = (refl, h)
and_true false b h = cc

le_true : (m n : ℕ) → nat_le m n ≡ true → m ≤ n
le_true m n h = grind (arith, nat_tests)

abbrev pub IsBetween : ℕ → ℕ → ℕ → Type 0
IsBetween least most n = (least ≤ n) × (n ≤ most)

pub ok_number : (least most : ℕ) (d : Data) → IfOk (number least most d) (IsBetween least most)
unfolding number
ok_number least most d =
    ok_then (IsBetween least most) _ (λ n. if nat_le least n && nat_le n most then Ok n else Err BadValue)
    (λ n _. ok_if (IsBetween least most) (nat_le least n && nat_le n most) (Ok n) (Err BadValue)
    (λ h. let both = and_true (nat_le least n) (nat_le n most) h in (le_true least n both.0, le_true n most both.1)) (λ _. tt))

pub ok_text : (least most : ℕ) (d : Data) → IfOk (text least most d) (IsText least most)
unfolding text
ok_text least most d =
    ok_then (IsText least most) (string_of d) (passed (is_text least most)) (λ t _. ok_passed (IsText least most) (is_text least most) t (decides_text least most t).0)

pub ok_type_name : (d : Data) → IfOk (type_name d) IsTypeName
unfolding type_name
ok_type_name d =
    ok_then IsTypeName (string_of d) (λ name. passed is_type_name (with_module name))
    (λ name _. ok_passed IsTypeName is_type_name (with_module name) (decides_type_name (with_module name)).0)

pub ok_match : (d : Data) → IfOk (resource_match d) IsMatch
unfolding resource_match
ok_match d = ok_then IsMatch (string_of d) (passed is_match) (λ t _. ok_passed IsMatch is_match t (decides_match t).0)

pub ok_pattern : (d : Data) → IfOk (pattern d) IsPatternWithin
unfolding pattern is_pattern_text
ok_pattern d =
    ok_then IsPatternWithin (string_of d) (passed is_pattern_text) (λ t _. ok_passed IsPatternWithin is_pattern_text t (λ h.
    let both = and_true (is_text 0 255 t) _ h in
    record { text = (decides_text 0 255 t).0 both.0; spelled = (decides_spelled_pattern t).0 both.1 }))

-- ---- lists

abbrev pub AreFew : {A : Type 0} → ℕ → (A → Type 0) → List A → Type 0
AreFew most P xs = (length xs ≤ most) × All P xs

ok_each : {A : Type 0} (P : A → Type 0) (read : Data → Result A InputFault) → ((d : Data) → IfOk (read d) P) → (ds : List Data) → IfOk (each read ds) (λ xs. (length xs ≡ length ds) × All P xs)
ok_each P read h [] = (refl, λ k d lt. absurd (omega arith))
ok_each {A} P read h (d ∷ ds) =
    let Rest : List A → Type 0 = λ xs. (length xs ≡ length ds) × All P xs in
    ok_then (λ xs. (length xs ≡ length (d ∷ ds)) × All P xs) (read d) (λ a. and_then (each read ds) (λ more. Ok (a ∷ more))) (λ a is_a.
    ok_then (λ xs. (length xs ≡ length (d ∷ ds)) × All P xs) (each read ds) (λ more. Ok (a ∷ more)) (λ more is_more.
    let rest : Rest more = ok_value Rest (each read ds) more (ok_each P read h ds) is_more in
    (ap (λ n. suc n) rest.0, All-cons P a more (ok_value P (read d) a (h d) is_a) rest.1)))

pub ok_list : {A : Type 0} (most : ℕ) (P : A → Type 0) (read : Data → Result A InputFault) → ((d : Data) → IfOk (read d) P) → (d : Data) → IfOk (list most read d) (AreFew most P)
unfolding list
ok_list {A} most P read h d =
    ok_then (AreFew most P) (or_fault BadValue (as_array d)) (λ ds. if nat_le (length (listed ds)) most then each read (listed ds) else Err BadValue) (λ ds _.
    ok_if (AreFew most P) (nat_le (length (listed ds)) most) (each read (listed ds)) (Err BadValue) (λ few. short ds (le_true (length (listed ds)) most few)) (λ _. tt))
  where
    short : (ds : Items) → length (listed ds) ≤ most → IfOk (each read (listed ds)) (AreFew most P)
    short ds le = few_of (each read (listed ds)) (ok_each P read h (listed ds))
      where
        few_of : (said : Result (List A) InputFault) → IfOk said (λ xs. (length xs ≡ length (listed ds)) × All P xs) → IfOk said (AreFew most P)
        few_of (Ok xs) k = (let e = k.0 in omega arith, k.1)
        few_of (Err e) k = tt

-- ---- lists without repeats

or_false : (a b : Bool) → a || b ≡ false → (a ≡ false) × (b ≡ false)
or_false true b h = cc
or_false false b h = (refl, h)

not_true : (a : Bool) → not a ≡ true → a ≡ false
not_true true h = cc
not_true false h = refl

abbrev pub Differ : {A : Type 0} → A → A → Type 0
Differ a b = a ≢ b

none_same : {A : Type 0} (same : A → A → Bool) → ((a b : A) → Decides (same a b) (a ≡ b)) → (x : A) (xs : List A) → list_any (same x) xs ≡ false → All (Differ x) xs
none_same same exact x [] h = λ k d lt. absurd (omega arith)
none_same same exact x (y ∷ ys) h =
    let both = or_false (same x y) (list_any (same x) ys) h in
    All-cons (Differ x) y ys (λ e. false≢true (at_both both.0 ((exact x y).1 e))) (none_same same exact x ys both.1)
  where
    at_both : {a : Bool} → a ≡ false → a ≡ true → false ≡ true
    at_both h k = cc

pairs_from : {A : Type 0} (x : A) (xs : List A) → All (Differ x) xs → AllPairs Differ xs → AllPairs Differ (x ∷ xs)
pairs_from x xs first others zero zero d lt within = absurd (omega arith)
pairs_from x xs first others zero (suc j) d lt within = first j d (omega arith)
pairs_from x xs first others (suc i) zero d lt within = absurd (omega arith)
pairs_from x xs first others (suc i) (suc j) d lt within = others i j d (omega arith) (omega arith)

pub distinct : {A : Type 0} (same : A → A → Bool) → ((a b : A) → Decides (same a b) (a ≡ b)) → (xs : List A) → repeats same xs ≡ false → AllPairs Differ xs
distinct same exact [] h = λ i j d lt within. absurd (omega arith)
distinct same exact (x ∷ xs) h =
    let both = or_false (list_any (same x) xs) (repeats same xs) h in
    pairs_from x xs (none_same same exact x xs both.0) (distinct same exact xs both.1)

abbrev pub AreOther : {A : Type 0} → ℕ → (A → Type 0) → List A → Type 0
AreOther most P xs = AreFew most P xs × AllPairs Differ xs

pub ok_set : {A : Type 0} (most : ℕ) (same : A → A → Bool) (P : A → Type 0) (read : Data → Result A InputFault) → ((a b : A) → Decides (same a b) (a ≡ b))
    → ((d : Data) → IfOk (read d) P) → (d : Data) → IfOk (set most same read d) (AreOther most P)
unfolding set
ok_set most same P read exact h d =
    ok_then (AreOther most P) (list most read d) (passed (λ values. not (repeats same values))) (λ xs is_xs.
    ok_passed (AreOther most P) (λ values. not (repeats same values)) xs (λ none.
    (ok_value (AreFew most P) (list most read d) xs (ok_list most P read h d) is_xs, distinct same exact xs (not_true (repeats same xs) none))))
