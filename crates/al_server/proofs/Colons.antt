-- Colons in addresses.
use Rattle.std.proofs.Common.{◌≡◌, ◌≢◌, ◌<◌, ◌+◌, ◌%◌, ◌^◌, ℕ, List, [], ◌∷◌, ◌++◌, refl, sym, ◌∙◌, subst, arith}
use Rattle.std.specs.Prelude.{codes, decimal}
use Rattle.std.specs.Net.Grammar.{IsDotted, IsIpv4Text}
use Rattle.std.specs.declared.net.ipv4_addr.Ipv4Addr.{Ipv4Addr}
use Rattle.std.proofs.lemmas.Fmt.{decimal_by_steps}
use Rattle.al_server.specs.Addresses.{HasNoColon, IsAddress, SplitsAtColon, colon}
use Rattle.al_server.specs.declared.serve_words.Address.{Address}

no_colon_append : (xs ys : List ℕ) → HasNoColon xs → HasNoColon ys → HasNoColon (xs ++ ys)
no_colon_append [] ys none_first none_second = none_second
no_colon_append (x ∷ xs) ys none_first none_second = (none_first.0, no_colon_append xs ys none_first.1 none_second)

digit_is_none : (n : ℕ) → n < 10 → 48 + n ≢ 58
digit_is_none n below is = absurd (omega (arith, below, is))

last_digit : (n : ℕ) → n % 10 < 10
last_digit n = omega arith

-- the digits of a number
no_colon_decimal : (n : ℕ) → n < 2 ^ 64 → HasNoColon (decimal n)
no_colon_decimal =
    decimal_by_steps (λ n digits. HasNoColon digits) (λ n below. (digit_is_none n below, tt))
    (λ n digits most none. no_colon_append digits ((48 + n % 10) ∷ []) none (digit_is_none (n % 10) (last_digit n), tt))

no_colon_dot : HasNoColon (codes ".")
no_colon_dot = (λ is. cc, tt)

no_colon_dotted : (text octets : List ℕ) → IsDotted text octets → HasNoColon text
no_colon_dotted text octets dotted =
    let digits : (n : ℕ) → n < 256 → HasNoColon (decimal n) = λ n below. no_colon_decimal n (omega (arith, below)) in
    let all = no_colon_append _ (decimal dotted.d) (no_colon_append _ (codes ".") (no_colon_append _ (decimal dotted.c) (no_colon_append _ (codes ".") (no_colon_append _ (decimal dotted.b)
    (no_colon_append (decimal dotted.a) (codes ".") (digits dotted.a dotted.fit.0) no_colon_dot) (digits dotted.b dotted.fit.1)) no_colon_dot) (digits dotted.c dotted.fit.2)) no_colon_dot) (digits dotted.d dotted.fit.3) in
    subst HasNoColon (sym dotted.spelled) all

-- the numbers of an address
pub no_colon_ip : (text : List ℕ) (ip : Ipv4Addr) → IsIpv4Text text ip → HasNoColon text
no_colon_ip text ip is = no_colon_dotted text _ is

has_colon : (xs ys : List ℕ) → HasNoColon (xs ++ colon ∷ ys) → ⊥
has_colon [] ys none = none.0 refl
has_colon (x ∷ xs) ys none = has_colon xs ys none.1

-- a text without a colon is no address
pub no_address : (text : List ℕ) (address : Address) → HasNoColon text → ¬ (IsAddress text address)
no_address text address none is = has_colon is.ip _ (subst HasNoColon is.text_is none)

-- there is one first colon
one_split : (xs ys before behind : List ℕ) → HasNoColon xs → HasNoColon before → xs ++ colon ∷ ys ≡ before ++ colon ∷ behind → (xs ≡ before) × (ys ≡ behind)
one_split [] ys [] behind none_first none_second same = (refl, (let s = same in cc))
one_split [] ys (b ∷ before) behind none_first none_second same = absurd (none_second.0 (let s = same in cc))
one_split (x ∷ xs) ys [] behind none_first none_second same = absurd (none_first.0 (let s = same in cc))
one_split (x ∷ xs) ys (b ∷ before) behind none_first none_second same =
    let rest = one_split xs ys before behind none_first.1 none_second.1 (let s = same in cc) in
    let head : x ≡ b = (let s = same in cc) in
    ((let r = rest.0 in cc), rest.1)

-- so an address has these parts
pub parts_are : (text before behind : List ℕ) (address : Address) → SplitsAtColon text before behind → (is : IsAddress text address) → (is.ip ≡ before) × (decimal address.port ≡ behind)
parts_are text before behind address splits is = one_split is.ip (decimal address.port) before behind (no_colon_ip is.ip address.ip is.ip_is) splits.1 (sym is.text_is ∙ splits.0)
