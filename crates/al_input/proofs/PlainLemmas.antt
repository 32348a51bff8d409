-- What is found in the members of a report whose members are texts, and how they are read.
use Rattle.std.proofs.Common.{◌≡◌, inl, inr, ◌<◌, ◌≤◌, ◌-◌, ℕ, true, false, Option, None, Some, option_map, Result, Ok, List, [], ◌∷◌, length, Ordering, Less, Equal, Greater, is_eq, refl, subst, sym, ap, ◌∙◌, arith, unwrap_or}
use Rattle.std.specs.Cmp.Lexicographic.{slice_cmp}
use Rattle.std.specs.List.{list_all}
use Rattle.std.specs.Ordering.{match_ordering, nat_cmp}
use Rattle.std.specs.Prelude.{IfSome, IsUtf8, codes}
use Rattle.std.proofs.lemmas.Bool.{true≢false}
use Rattle.json.specs.Json as json
use Rattle.json.specs.Json.{members, parse_map, read_key, value}
use Rattle.json.specs.Lex.{tokens}
use Rattle.json.specs.Token.{Token}
use Rattle.json.proofs.Grammar.{members_end, members_more, read_key-shorter, value-begin_object, value_is}
use Rattle.al_model.specs.declared.request.Request.{Request}
use Rattle.al_input.specs.Faults.{Answers}
use Rattle.al_input.specs.Inputs.{body, report, report_members, report_names}
use Rattle.al_input.specs.Members.{is_among, known_only, names_in, one_of, optional, read_some, required, value_at}
use Rattle.al_input.specs.Plain.{NamesInput, given, input_tree, members_at, texts, tree_of, whole_value}
use Rattle.al_input.specs.Reports.{text_at}
use Rattle.al_input.specs.declared.report.Member.TheVariants.{Resource, TypeId, Severity, AlarmText, Qualifier}
use Rattle.al_input.specs.Readers.{string_of}
use Rattle.al_input.specs.declared.fault.InputFault.{InputFault}
use Rattle.al_base.specs.Answers.{and_then}
use Rattle.serde_json.specs.Data.{Data, object, string, Members, no_members, member, put}
use Rattle.serde_json.specs.Find.{get_member}
use Rattle.serde_json.specs.Read.{converted, of_json, of_members, read}

-- ---- a member more

past : (k l : List ℕ) (d : Data) (t : Option (List ℕ)) (ms : Members) → slice_cmp nat_cmp k l ≡ Greater → put k d (given l t ms) ≡ given l t (put k d ms)
past k l d None ms e = refl
past k l d (Some t) ms e = rw e refl

before : (k l : List ℕ) (d : Data) (t : Option (List ℕ)) (ms : Members) → slice_cmp nat_cmp k l ≡ Less → put k d ms ≡ member k d ms → put k d (given l t ms) ≡ member k d (given l t ms)
before k l d None ms e h = h
before k l d (Some t) ms e h = rw e refl

here : (k x : List ℕ) (t : Option (List ℕ)) (ms : Members) → slice_cmp nat_cmp k k ≡ Equal → put k (string x) ms ≡ member k (string x) ms → put k (string x) (given k t ms) ≡ given k (Some x) ms
here k x None ms e h = h
here k x (Some t) ms e h = rw e refl

module _ (x : List ℕ) (a b c d e : Option (List ℕ)) where
  pub put_text : put (codes "alarm-text") (string x) (texts a b c d e) ≡ texts (Some x) b c d e
  put_text = here _ x a _ refl (before _ _ _ b _ refl (before _ _ _ c _ refl (before _ _ _ d _ refl (before _ _ _ e _ refl refl))))

  pub put_type : put (codes "alarm-type-id") (string x) (texts a b c d e) ≡ texts a (Some x) c d e
  put_type = past _ _ _ a _ refl ∙ ap (given _ a) (here _ x b _ refl (before _ _ _ c _ refl (before _ _ _ d _ refl (before _ _ _ e _ refl refl))))

  pub put_qualifier : put (codes "alarm-type-qualifier") (string x) (texts a b c d e) ≡ texts a b (Some x) d e
  put_qualifier =
      past _ _ _ a _ refl ∙ ap (given _ a) (past _ _ _ b _ refl ∙ ap (given _ b) (here _ x c _ refl (before _ _ _ d _ refl (before _ _ _ e _ refl refl))))

  pub put_severity : put (codes "perceived-severity") (string x) (texts a b c d e) ≡ texts a b c (Some x) e
  put_severity =
      past _ _ _ a _ refl ∙ ap (given _ a) (past _ _ _ b _ refl ∙ ap (given _ b) (past _ _ _ c _ refl ∙ ap (given _ c) (here _ x d _ refl (before _ _ _ e _ refl refl))))

  pub put_resource : put (codes "resource") (string x) (texts a b c d e) ≡ texts a b c d (Some x)
  put_resource =
      past _ _ _ a _ refl ∙ ap (given _ a) (past _ _ _ b _ refl ∙ ap (given _ b) (past _ _ _ c _ refl ∙ ap (given _ c) (past _ _ _ d _ refl ∙ ap (given _ d) (here _ x e _ refl refl))))

-- ---- the members known

known : (names : List (List ℕ)) (l : List ℕ) (t : Option (List ℕ)) (ms : Members) → is_among names l ≡ true → list_all (is_among names) (names_in ms) ≡ true → list_all (is_among names) (names_in (given l t ms)) ≡ true
known names l None ms e h = h
known names l (Some t) ms e h = rw e h

-- ---- what is found

other : (o : Ordering) (found here : Option Data) → is_eq o ≡ false → match_ordering o found here found ≡ found
other Less found here e = refl
other Equal found here e = absurd (true≢false e)
other Greater found here e = refl

skip : (k l : List ℕ) (t : Option (List ℕ)) (ms : Members) → is_eq (slice_cmp nat_cmp k l) ≡ false → get_member k (given l t ms) ≡ get_member k ms
skip k l None ms e = refl
skip k l (Some t) ms e = other (slice_cmp nat_cmp k l) (get_member k ms) (Some (string t)) e

at : (k : List ℕ) (t : Option (List ℕ)) (ms : Members) → slice_cmp nat_cmp k k ≡ Equal → get_member k ms ≡ None → get_member k (given k t ms) ≡ option_map string t
at k None ms e h = h
at k (Some t) ms e h = rw e refl

alone : {A : Type 0} (first second : Option A) → second ≡ None → one_of first second ≡ Ok first
unfolding one_of
alone None second e = ap (λ o. Ok o) e
alone (Some x) second e = rw e refl

-- the text of what is found
as_text : (t : Option (List ℕ)) → read_some string_of (option_map string t) ≡ Ok t
as_text None = refl
as_text (Some x) = refl

module _ (a b c d e : Option (List ℕ)) where
  absent : (k : List ℕ) → is_eq (slice_cmp nat_cmp k (codes "alarm-text")) ≡ false → is_eq (slice_cmp nat_cmp k (codes "alarm-type-id")) ≡ false → is_eq (slice_cmp nat_cmp k (codes "alarm-type-qualifier")) ≡ false
      → is_eq (slice_cmp nat_cmp k (codes "perceived-severity")) ≡ false → is_eq (slice_cmp nat_cmp k (codes "resource")) ≡ false → get_member k (texts a b c d e) ≡ None
  absent k e1 e2 e3 e4 e5 = skip k _ a _ e1 ∙ skip k _ b _ e2 ∙ skip k _ c _ e3 ∙ skip k _ d _ e4 ∙ skip k _ e _ e5

  text_found : value_at (codes "alarm-text") (codes "alarmd:alarm-text") (object (texts a b c d e)) ≡ Ok (option_map string a)
  text_found =
      let k = codes "alarm-text" in
      alone _ _ (absent (codes "alarmd:alarm-text") refl refl refl refl refl)
      ∙ ap (λ o. Ok o) (at k a _ refl (skip k _ b _ refl ∙ skip k _ c _ refl ∙ skip k _ d _ refl ∙ skip k _ e _ refl))

  type_found : value_at (codes "alarm-type-id") (codes "alarmd:alarm-type-id") (object (texts a b c d e)) ≡ Ok (option_map string b)
  type_found =
      let k = codes "alarm-type-id" in
      alone _ _ (absent (codes "alarmd:alarm-type-id") refl refl refl refl refl)
      ∙ ap (λ o. Ok o) (skip k _ a _ refl ∙ at k b _ refl (skip k _ c _ refl ∙ skip k _ d _ refl ∙ skip k _ e _ refl))

  qualifier_found : value_at (codes "alarm-type-qualifier") (codes "alarmd:alarm-type-qualifier") (object (texts a b c d e)) ≡ Ok (option_map string c)
  qualifier_found =
      let k = codes "alarm-type-qualifier" in
      alone _ _ (absent (codes "alarmd:alarm-type-qualifier") refl refl refl refl refl)
      ∙ ap (λ o. Ok o) (skip k _ a _ refl ∙ skip k _ b _ refl ∙ at k c _ refl (skip k _ d _ refl ∙ skip k _ e _ refl))

  severity_found : value_at (codes "perceived-severity") (codes "alarmd:perceived-severity") (object (texts a b c d e)) ≡ Ok (option_map string d)
  severity_found =
      let k = codes "perceived-severity" in
      alone _ _ (absent (codes "alarmd:perceived-severity") refl refl refl refl refl)
      ∙ ap (λ o. Ok o) (skip k _ a _ refl ∙ skip k _ b _ refl ∙ skip k _ c _ refl ∙ at k d _ refl (skip k _ e _ refl))

  resource_found : value_at (codes "resource") (codes "alarmd:resource") (object (texts a b c d e)) ≡ Ok (option_map string e)
  resource_found =
      let k = codes "resource" in
      alone _ _ (absent (codes "alarmd:resource") refl refl refl refl refl)
      ∙ ap (λ o. Ok o) (skip k _ a _ refl ∙ skip k _ b _ refl ∙ skip k _ c _ refl ∙ skip k _ d _ refl ∙ at k e _ refl refl)

  pub names_said : report_names (object (texts a b c d e)) ≡ Ok tt
  unfolding report_names known_only
  names_said =
      rw (known report_members (codes "alarm-text") a _ refl (known report_members (codes "alarm-type-id") b _ refl (known report_members (codes "alarm-type-qualifier") c _ refl
      (known report_members (codes "perceived-severity") d _ refl (known report_members (codes "resource") e _ refl refl))))) refl

  pub resource_said : text_at Resource (object (texts a b c d e)) ≡ Ok e
  unfolding optional
  resource_said = ap (λ r. and_then r (read_some string_of)) resource_found ∙ as_text e

  pub type_said : text_at TypeId (object (texts a b c d e)) ≡ Ok b
  unfolding optional
  type_said = ap (λ r. and_then r (read_some string_of)) type_found ∙ as_text b

  pub severity_said : text_at Severity (object (texts a b c d e)) ≡ Ok d
  unfolding optional
  severity_said = ap (λ r. and_then r (read_some string_of)) severity_found ∙ as_text d

  pub text_said : text_at AlarmText (object (texts a b c d e)) ≡ Ok a
  unfolding optional
  text_said = ap (λ r. and_then r (read_some string_of)) text_found ∙ as_text a

  pub qualifier_said : text_at Qualifier (object (texts a b c d e)) ≡ Ok c
  unfolding optional
  qualifier_said = ap (λ r. and_then r (read_some string_of)) qualifier_found ∙ as_text c

-- ---- the whole body

pub input_read : {A : Type 0} (read : Data → Result A InputFault) (name : List ℕ) (ms : Members) → NamesInput name → body (codes "input") (codes "alarmd:input") read (input_tree name ms) ≡ read (object ms)
unfolding known_only required one_of
input_read read name ms (inl is) = rw is refl
input_read read name ms (inr is) = rw is refl

-- ---- tokens

with_member : (k : List ℕ) (j : json.Json) (d : Data) (old : Members) → of_json j ≡ Some d → (o : Option (json.Members × List Token))
    → converted (λ js. of_members js old) (parse_map (json.member k j) o) ≡ converted (λ js. of_members js (put k d old)) o
with_member k j d old e None = refl
with_member k j d old e (Some q) = rw e refl

text_member : (old : Members) (n : ℕ) (k t : List ℕ) (ts r : List Token) → 0 < n → read_key ts ≡ Some (Some k, Token.string t ∷ r) → members_at n old ts ≡ members_at (n - 1) (put k (string t) old) r
text_member old n k t ts r some key =
    ap (converted (λ js. of_members js old)) (members_more (value 125) n k ts (Token.string t ∷ r) r (json.string t) some key (value_is 125 (Token.string t ∷ r))) ∙ with_member k (json.string t) (string t) old refl (members (value 125) (n - 1) r)

-- a text more
pub one_more : (old new : Members) (k t : List ℕ) (ts r : List Token) (n : ℕ) → read_key ts ≡ Some (Some k, Token.string t ∷ r) → put k (string t) old ≡ new → length ts ≤ n → (members_at n old ts ≡ members_at (n - 1) new r) × (length r ≤ n - 1)
one_more old new k t ts r n key is enough =
    let less = read_key-shorter ts (Some k) (Token.string t ∷ r) key in
    (text_member old n k t ts r (omega (arith, less)) key ∙ ap (λ ms. members_at (n - 1) ms r) is, omega (arith, less))

pub if_then : {A : Type 0} (P Q : A → Type 0) (o : Option A) → IfSome o P → ((a : A) → P a → Q a) → IfSome o Q
if_then P Q None h f = tt
if_then P Q (Some a) h f = f a h

-- the end of the object
pub members_done : (old : Members) (n : ℕ) (ts r : List Token) → length ts ≤ n → read_key ts ≡ Some (None, r) → members_at n old ts ≡ Some (old, r)
members_done old n ts r enough e = ap (converted (λ js. of_members js old)) (members_end (value 125) n ts r enough e)

in_pair : (x : Option Members) (q r : List Token) (ms : Members) → option_map {U = Members × List Token} (λ b. (b, q)) x ≡ Some (ms, r) → (x ≡ Some ms) × (q ≡ r)
in_pair None q r ms e = absurd (cc)
in_pair (Some y) q r ms e = let same = ap (λ o. unwrap_or o (y, q)) e in (ap (λ p. Some p.0) same, ap (λ p. p.1) same)

parsed : (o : Option (json.Members × List Token)) (ms : Members) (r : List Token) → converted (λ js. of_members js no_members) o ≡ Some (ms, r) → (js : json.Members) × (o ≡ Some (js, r)) × (of_members js no_members ≡ Some ms)
parsed None ms r e = absurd (cc)
parsed (Some q) ms r e = let found = in_pair (of_members q.0 no_members) q.1 r ms e in (q.0, ap (λ rest. Some (q.0, rest)) found.1, found.0)

pub body_read : (name : List ℕ) (ms : Members) (inner : List Token) → members_at (length inner) no_members inner ≡ Some (ms, Token.end_object ∷ [])
    → tree_of (Token.begin_object ∷ Token.key name ∷ Token.begin_object ∷ inner) ≡ Some (input_tree name ms)
body_read name ms inner e =
    let named = Token.key name ∷ Token.begin_object ∷ inner in
    let js = parsed (members (value 125) (length inner) inner) ms (Token.end_object ∷ []) e in
    let held : value 126 (Token.begin_object ∷ inner) ≡ Some (json.object js.0, Token.end_object ∷ []) =
    value-begin_object 126 inner (omega arith) ∙ ap (parse_map json.object) js.1 in
    let all : value 127 (Token.begin_object ∷ named) ≡ Some (json.object (json.member name (json.object js.0) json.no_members), []) =
    value-begin_object 127 named (omega arith)
    ∙ ap (parse_map json.object) (members_more (value 126) (length named) name named (Token.begin_object ∷ inner) (Token.end_object ∷ []) (json.object js.0) (omega arith) refl held
    ∙ ap (parse_map (json.member name (json.object js.0))) (members_end (value 126) (length named - 1) (Token.end_object ∷ []) [] (omega arith) refl)) in
    ap whole_value all ∙ rw js.2 refl

-- what is answered is what the body of these bytes asks
pub answered : (bytes : List ℕ) (name : List ℕ) (ms : Members) (answer : Result Request InputFault) → IsUtf8 bytes → NamesInput name → tree_of (tokens bytes) ≡ Some (input_tree name ms) → Answers (report (object ms)) answer
    → (d : Data) × IsUtf8 bytes × (read bytes ≡ Some d) × Answers (body (codes "input") (codes "alarmd:input") report d) answer
answered bytes name ms answer utf8 names tree said =
    (input_tree name ms, utf8, tree, subst (λ r. Answers r answer) (sym (input_read report name ms names)) said)
