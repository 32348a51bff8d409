-- Formats: how values are spelled in bytes, how they are read from the front of bytes, and which of them have a spelling.
use Rattle.std.specs.Prelude.{◌≡◌, ℕ, zero, suc, ◌-◌, ◌^◌, ⊤, Bool, true, not, ◌&&◌, nat_lt, nat_le, if◌then◌else◌, List, [], ◌∷◌, ◌++◌, length, take, drop, Option, Some, None, Result, Ok, Err}
use Rattle.std.specs.Int.{Width, w16, byte_len, from_be_bytes, to_be_bytes}
use Rattle.std.specs.List.{list_all}
use Rattle.al_base.specs.declared.form.FormFault.{FormFault}
use Rattle.al_base.specs.declared.form.FormFault.TheVariants as forms
use Rattle.al_frame.specs.declared.fault.FrameFault.{FrameFault}
use Rattle.al_frame.specs.declared.fault.FrameFault.TheVariants.{Truncated, Byte, Trailing, Memory}
use Rattle.al_base.specs.Repeats.{repeats}
use Rattle.al_base.specs.Answers.{and_then}

-- ---- answers

-- What was said is this fault, or the fault is want of memory, which no bytes have.
abbrev pub IsFault : {B : Type 0} → Result B FrameFault → FrameFault → Type 0
IsFault said (Truncated place) = said ≡ Err (Truncated place)
IsFault said (Byte place) = said ≡ Err (Byte place)
IsFault said (Trailing place) = said ≡ Err (Trailing place)
IsFault said Memory = ⊤

-- A call's answer, seen so, is what was said, unless memory ran out.
abbrev pub Gives : {A B : Type 0} → (A → B) → Result A FrameFault → Result B FrameFault → Type 0
Gives view (Ok a) said = said ≡ Ok (view a)
Gives view (Err fault) said = IsFault said fault

-- the answer of a reading of the field that begins at this place
abbrev pub faulted : {A : Type 0} → ℕ → Result A FormFault → Result A FrameFault
faulted place (Ok a) = Ok a
faulted place (Err forms.Form) = Err (Byte place)
faulted place (Err forms.Memory) = Err Memory

-- ---- readers

-- Of the length of the whole input and of its rest, a reader takes a value from the front of the rest; what stands behind it comes with it. So a
-- field begins at the input's length without the rest's.
abbrev pub Reader : Type 0 → Type 0
Reader A = ℕ → List ℕ → Result (A × List ℕ) FrameFault

-- the value, where it passes the test; else its field, which begins at this place, is at fault
unfoldable pub passed : {A : Type 0} → (A → Bool) → ℕ → A → Result A FrameFault
passed test place a = if test a then Ok a else Err (Byte place)

-- what a code stands for, if for anything
abbrev pub named : {A : Type 0} → ℕ → Option A → Result A FrameFault
named place (Some a) = Ok a
named place None = Err (Byte place)

unfoldable pub number_at : Width → Reader ℕ
number_at w n bytes =
    if nat_lt (length bytes) (byte_len w) then Err (Truncated n) else Ok (from_be_bytes w (take (byte_len w) bytes), drop (byte_len w) bytes)

unfoldable pub byte_at : Reader ℕ
byte_at n [] = Err (Truncated n)
byte_at n (byte ∷ rest) = Ok (byte, rest)

-- so many bytes
unfoldable pub bytes_at : ℕ → Reader (List ℕ)
bytes_at count n bytes = if nat_lt (length bytes) count then Err (Truncated n) else Ok (take count bytes, drop count bytes)

-- a length in two bytes, and that many bytes
unfoldable pub piece_at : Reader (List ℕ)
piece_at n bytes = and_then (number_at w16 n bytes) (λ count. bytes_at count.0 n count.1)

-- 0, or 1 and a value
unfoldable pub opt_at : {A : Type 0} → Reader A → Reader (Option A)
opt_at read n [] = Err (Truncated n)
opt_at read n (zero ∷ rest) = Ok (None, rest)
opt_at read n (suc zero ∷ rest) = and_then (read n rest) (λ x. Ok (Some x.0, x.1))
opt_at read n (suc (suc byte) ∷ rest) = Err (Byte (n - suc (length rest)))

-- so many values, one after the other
abbrev pub each_at : {A : Type 0} → Reader A → ℕ → ℕ → List ℕ → Result (List A × List ℕ) FrameFault
each_at read zero n bytes = Ok ([], bytes)
each_at read (suc count) n bytes =
    and_then (read n bytes) (λ x. and_then (each_at read count n x.1) (λ xs. Ok (x.0 ∷ xs.0, xs.1)))

-- ---- formats

pub record Format (A : Type 0) : Type 0 where
  pub read : ℕ → List ℕ → Result (A × List ℕ) FrameFault
  pub spell : A → List ℕ
  pub fits : A → Bool

-- a number of this width, the highest byte first
abbrev pub number : Width → Format ℕ
number w = record { read = number_at w; spell = to_be_bytes w; fits = λ x. nat_lt x (256 ^ byte_len w) }

abbrev pub byte : Format ℕ
byte = record { read = byte_at; spell = λ b. b ∷ []; fits = λ b. nat_lt b 256 }

abbrev pub piece : Format (List ℕ)
piece = record { read = piece_at; spell = λ text. to_be_bytes w16 (length text) ++ text; fits = λ text. nat_lt (length text) (2 ^ 16) }

-- the values that pass the test; the fault of others stands where their field begins
abbrev pub checked : {A : Type 0} → (A → Bool) → Format A → Format A
checked test f = record {
  read = λ n bytes. and_then (f.read n bytes) (λ x. and_then (passed test (n - length bytes) x.0) (λ a. Ok (a, x.1)));
  spell = f.spell;
  fits = λ a. f.fits a && test a;
}

abbrev pub text : (List ℕ → Bool) → Format (List ℕ)
text test = checked test piece

-- values that codes stand for; the fault of a code that stands for none stands where its field begins
abbrev pub coded : {A B : Type 0} → (B → Option A) → (A → B) → (A → Bool) → Format B → Format A
coded of code fits f = record {
  read = λ n bytes. and_then (f.read n bytes) (λ x. and_then (named (n - length bytes) (of x.0)) (λ a. Ok (a, x.1)));
  spell = λ a. f.spell (code a);
  fits = fits;
}

abbrev pub spelled_opt : {A : Type 0} → (A → List ℕ) → Option A → List ℕ
spelled_opt spell None = 0 ∷ []
spelled_opt spell (Some a) = 1 ∷ spell a

abbrev pub fits_opt : {A : Type 0} → (A → Bool) → Option A → Bool
fits_opt fits None = true
fits_opt fits (Some a) = fits a

abbrev pub opt : {A : Type 0} → Format A → Format (Option A)
opt f = record { read = opt_at f.read; spell = spelled_opt f.spell; fits = fits_opt f.fits }

-- one after the other
abbrev pub both : {A B : Type 0} → Format A → Format B → Format (A × B)
both f g = record {
  read = λ n bytes. and_then (f.read n bytes) (λ x. and_then (g.read n x.1) (λ y. Ok ((x.0, y.0), y.1)));
  spell = λ p. f.spell p.0 ++ g.spell p.1;
  fits = λ p. f.fits p.0 && g.fits p.1;
}

-- the same under another form
abbrev pub seen : {A B : Type 0} → (A → B) → (B → A) → Format A → Format B
seen to from f = record {
  read = λ n bytes. and_then (f.read n bytes) (λ x. Ok (to x.0, x.1));
  spell = λ b. f.spell (from b);
  fits = λ b. f.fits (from b);
}

abbrev pub spelled_each : {A : Type 0} → (A → List ℕ) → List A → List ℕ
spelled_each spell [] = []
spelled_each spell (x ∷ xs) = spell x ++ spelled_each spell xs

-- a count in two bytes, at most so great, which is a field of its own, and that many values
abbrev pub list : {A : Type 0} → ℕ → Format A → Format (List A)
list most f = record {
  read = λ n bytes. and_then ((checked (λ count. nat_le count most) (number w16)).read n bytes) (λ count. each_at f.read count.0 n count.1);
  spell = λ xs. to_be_bytes w16 (length xs) ++ spelled_each f.spell xs;
  fits = λ xs. nat_le (length xs) most && list_all f.fits xs;
}

-- a list without repeats
abbrev pub set : {A : Type 0} → ℕ → (A → A → Bool) → Format A → Format (List A)
set most same f = checked (λ xs. not (repeats same xs)) (list most f)
