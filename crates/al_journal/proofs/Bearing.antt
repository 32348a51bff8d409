-- What the durable writes of a birth leave.
use Rattle.std.proofs.Common.{◌≡◌, ◌⊎◌, inl, inr, ℕ, ◌+◌, ◌<◌, ◌≤◌, List, [], ◌∷◌, ◌++◌, length, take, drop, get_or, Result, Ok, Err, refl, sym, ◌∙◌, ap, subst, arith, append_assoc, length-append, take-append-drop}
use Rattle.std.proofs.lemmas.Bool.{cases_eq}
use Rattle.std.proofs.lemmas.List.{append-nil, drop_more}
use Rattle.al_disk.specs.Images.{MayLeave, Moment, Torn, Wrote}
use Rattle.al_disk.specs.States.{DiskState, MayChange, ReadsAsAnImage, put, synced, with_change}
use Rattle.al_disk.specs.declared.disk.DiskFault.{DiskFault}
use Rattle.al_disk.specs.Moments.{Has, SinceMoments}
use Rattle.al_disk.proofs.Moments.{after_refusal, one_earlier, synced_since, weaker_since}
use Rattle.al_journal.specs.Format.{IsCapacity, birth, in_eight, magic}
use Rattle.al_journal.specs.Images.{HasBirth, IsNoJournal, NoneOrEmpty, Shows}
use Rattle.al_journal.specs.Births.{Bears, Filled, Fills, IsFound, StartsOpen, StartsShut, Waiting}
use Rattle.al_journal.specs.Calls.{WritesDurably}
use Rattle.al_journal.specs.declared.making.Found.{Found}
use Rattle.al_journal.specs.declared.making.Found.TheVariants.{Made, Open, Shut}
use Rattle.al_journal.specs.declared.faults.BirthFault.TheVariants.{AlreadyMade, BadCapacity, Disk}
use Rattle.al_journal.proofs.Committing.{after_durable}
use Rattle.al_journal.proofs.Pieces.{length-birth}

pub birth_long : (capacity : ℕ) (image : List ℕ) → HasBirth capacity image → 14 ≤ length image
birth_long capacity image has = omega (arith, ap (λ (l : List ℕ). length l) has.is, length-append (birth capacity) (has.gate ∷ has.rest), length-birth capacity)

-- what doesn't begin with 01 has no birth
pub shut_none : (image : List ℕ) → StartsShut image → IsNoJournal image
shut_none image starts capacity has = let both : starts.first ∷ starts.rest ≡ 1 ∷ _ = sym starts.is ∙ has.is in starts.shut cc

pub found_none : (found : Found) (image : List ℕ) → (found ≡ Made → ⊥) → IsFound found image → IsNoJournal image
found_none Made image unmade is = absurd (unmade refl)
found_none Open image unmade is = is.0
found_none Shut image unmade is = shut_none image is

-- what is neither made nor open is shut
pub is_shut : (found : Found) → (found ≡ Made → ⊥) → (found ≡ Open → ⊥) → found ≡ Shut
is_shut Made unmade unopened = absurd (unmade refl)
is_shut Open unmade unopened = absurd (unopened refl)
is_shut Shut unmade unopened = refl

pub only_shut : (found : Found) (image : List ℕ) → (found ≡ Made → ⊥) → (found ≡ Open → ⊥) → IsFound found image → StartsShut image
only_shut found image unmade unopened is = subst (λ f. IsFound f image) (is_shut found unmade unopened) is

-- a first byte that may be any other
first_anew : (old new : List ℕ) → Torn 0 1 old new → 0 < length new → new ≡ get_or new 0 0 ∷ drop 1 old
first_anew old new torn there = drop_more new 0 0 there ∙ ap (λ (l : List ℕ). get_or new 0 0 ∷ l) torn.after

torn_open : (old new : List ℕ) → StartsOpen old → Torn 0 1 old new → IsNoJournal new
torn_open old new (none, inl empty) torn = λ capacity has. absurd (omega (arith, birth_long capacity new has, torn.no_longer, ap (λ (l : List ℕ). length l) empty))
torn_open old new (none, inr begins) torn =
    let there : 0 < length new = omega (arith, torn.no_shorter, ap (λ (l : List ℕ). length l) begins.1) in
    let whole = first_anew old new torn there in
    elim (cases_eq (get_or new 0 0) 1) [
      | inl is_open ↦
          let same : new ≡ old = whole ∙ ap (λ (b : ℕ). b ∷ drop 1 old) is_open ∙ ap (λ (l : List ℕ). 1 ∷ drop 1 l) begins.1 ∙ sym begins.1 in
          subst IsNoJournal (sym same) none
      | inr shut ↦ shut_none new (record { first = get_or new 0 0; rest = drop 1 old; is = whole; shut = shut })
    ]

put_shut_first : (old : List ℕ) → StartsShut (put 0 (0 ∷ []) old)
put_shut_first old = record { first = 0; rest = drop 1 old; is = refl; shut = λ same. omega (arith, same) }

pub starts_long : (image : List ℕ) → StartsShut image → 1 ≤ length image
starts_long image starts = omega (arith, ap (λ (l : List ℕ). length l) starts.is)

torn_rest : (n : ℕ) (old new : List ℕ) → StartsShut old → Torn 1 n old new → StartsShut new
torn_rest n old new starts torn = record {
  first = starts.first;
  rest = drop 1 new;
  is = sym (take-append-drop 1 new) ∙ ap (λ (l : List ℕ). l ++ drop 1 new) (torn.before ∙ ap (λ (l : List ℕ). take 1 l) starts.is);
  shut = starts.shut;
}

module _ (capacity : ℕ) (allowed : IsCapacity capacity) where
  abbrev rest_bytes : List ℕ
  rest_bytes = magic ++ in_eight capacity ++ 0 ∷ []

  abbrev Either : List ℕ → Type 0
  Either = NoneOrEmpty capacity

  put_rest : (old : List ℕ) → StartsShut old → Waiting capacity (put 1 rest_bytes old)
  put_rest old starts =
      let behind = drop (1 + length rest_bytes) old in
      record {
        first = starts.first;
        rest = behind;
        is = ap (λ (l : List ℕ). l ++ rest_bytes ++ behind) (ap (λ (l : List ℕ). take 1 l) starts.is)
            ∙ ap (λ (l : List ℕ). starts.first ∷ l) (append_assoc (magic ++ in_eight capacity) (0 ∷ []) behind);
        allowed = allowed;
      }

  torn_first : (old new : List ℕ) → Waiting capacity old → Torn 0 1 old new → Waiting capacity new
  torn_first old new waits torn =
      let there : 0 < length new = omega (arith, torn.no_shorter, ap (λ (l : List ℕ). length l) waits.is) in
      record {
        first = get_or new 0 0;
        rest = waits.rest;
        is = first_anew old new torn there ∙ ap (λ (l : List ℕ). get_or new 0 0 ∷ drop 1 l) waits.is;
        allowed = allowed;
      }

  shows_empty : (rest : List ℕ) → Shows capacity [] (1 ∷ (magic ++ in_eight capacity ++ 0 ∷ rest))
  shows_empty rest = record {
    gate = 0;
    rest = rest;
    is = ap (λ (l : List ℕ). l ++ 0 ∷ rest) (sym (append-nil (birth capacity)));
    shut = λ same. omega (arith, same);
    within = omega (arith, allowed);
    allowed = allowed;
  }

  put_first : (old : List ℕ) → Waiting capacity old → Shows capacity [] (put 0 (1 ∷ []) old)
  put_first old waits = subst (λ (l : List ℕ). Shows capacity [] (1 ∷ drop 1 l)) (sym waits.is) (shows_empty waits.rest)

  waits_either : (image : List ℕ) → Waiting capacity image → Either image
  waits_either image waits = elim (cases_eq waits.first 1) [
    | inl is_open ↦ inr (subst (Shows capacity []) (ap (λ (b : ℕ). b ∷ (magic ++ in_eight capacity ++ 0 ∷ waits.rest)) (sym is_open) ∙ sym waits.is) (shows_empty waits.rest))
    | inr shut ↦ inl (shut_none image (record { first = waits.first; rest = magic ++ in_eight capacity ++ 0 ∷ waits.rest; is = waits.is; shut = shut }))
  ]

  shut_part : (n : ℕ) (old new : List ℕ) → StartsShut old → Torn 1 n old new → Either new
  shut_part n old new starts torn = inl (shut_none new (torn_rest n old new starts torn))

  first_part : (old new : List ℕ) → Waiting capacity old → Torn 0 1 old new → Either new
  first_part old new waits torn = waits_either new (torn_first old new waits torn)

  pub rest_refused : (fault : DiskFault) (s t : DiskState) → MayChange (Wrote 1 (length rest_bytes)) s t → Fills StartsShut capacity (Err fault) s t
  rest_refused fault s t may = λ earlier has. after_refusal StartsShut Either Either (Wrote 1 (length rest_bytes)) earlier s t has (shut_part (length rest_bytes)) (λ image either. either) may

  waits : (earlier : List Moment) (s t : DiskState) → Has StartsShut Either earlier s → t ≡ synced (with_change (Wrote 1 (length rest_bytes)) (put 1 rest_bytes s.content) s) → Has (Waiting capacity) Either earlier t
  waits earlier s t has is =
      after_durable StartsShut Either (Waiting capacity) Either 1 rest_bytes earlier s t has (shut_part (length rest_bytes)) (λ image either. either)
      (starts_long s.content has.content) (put_rest s.content has.content) waits_either is

  pub first_written : (result : Result (Unit {0}) DiskFault) (s t u : DiskState) → t ≡ synced (with_change (Wrote 1 (length rest_bytes)) (put 1 rest_bytes s.content) s)
      → WritesDurably 0 (1 ∷ []) result t u → Fills StartsShut capacity result s u
  first_written (Ok done) s t u is wrote = λ earlier has.
      let middle = waits earlier s t has is in
      after_durable (Waiting capacity) Either (Shows capacity []) Either 0 (1 ∷ []) earlier t u middle first_part (λ image either. either) (omega arith) (put_first t.content middle.content) (λ image shows. inr shows) wrote
  first_written (Err fault) s t u is wrote = λ earlier has.
      after_refusal (Waiting capacity) Either Either (Wrote 0 1) earlier t u (waits earlier s t has is) first_part (λ image either. either) wrote

  open_part : (found : Found) → found ≡ Open → (old new : List ℕ) → IsFound found old → Torn 0 1 old new → Either new
  open_part found is old new front torn = inl (torn_open old new (subst (λ f. IsFound f old) is front) torn)

  pub open_refused : (found : Found) → found ≡ Open → (fault : DiskFault) (s t : DiskState) → MayChange (Wrote 0 1) s t → Fills (IsFound found) capacity (Err fault) s t
  open_refused found is fault s t may = λ earlier has. after_refusal (IsFound found) Either Either (Wrote 0 1) earlier s t has (open_part found is) (λ image either. either) may

  pub opened_shut : (s t : DiskState) → t ≡ synced (with_change (Wrote 0 1) (put 0 (0 ∷ []) s.content) s) → StartsShut t.content
  opened_shut s t is = subst (λ (u : DiskState). StartsShut u.content) (sym is) (put_shut_first s.content)

  pub open_filled : (found : Found) → found ≡ Open → (result : Result (Unit {0}) DiskFault) (s t u : DiskState) → t ≡ synced (with_change (Wrote 0 1) (put 0 (0 ∷ []) s.content) s)
      → Fills StartsShut capacity result t u → Fills (IsFound found) capacity result s u
  open_filled found is result s t u shut fills = λ earlier has.
      fills earlier (after_durable (IsFound found) Either StartsShut Either 0 (0 ∷ []) earlier s t has (open_part found is) (λ image either. either)
      (omega arith) (put_shut_first s.content) (λ image starts. inl (shut_none image starts)) shut)

  pub shut_filled : (found : Found) → found ≡ Shut → (result : Result (Unit {0}) DiskFault) (s t : DiskState) → Fills StartsShut capacity result s t → Fills (IsFound found) capacity result s t
  shut_filled found is result s t fills = subst (λ f. Fills (IsFound f) capacity result s t) (sym is) fills

module _ (capacity : ℕ) (s : DiskState) where
  abbrev Left : List ℕ → Type 0
  Left image = MayLeave s.now image ⊎ NoneOrEmpty capacity image

  still : SinceMoments Left s.past s
  still = record { moments = s.now ∷ []; are = refl; later = omega arith; each = (λ image left. inl left, tt) }

  -- nothing was done
  pub not_begun : (t : DiskState) → t ≡ s → Bears capacity (Err Disk) s t
  not_begun t same = subst (λ (u : DiskState). Bears capacity (Err Disk) s u) (sym same) (record { ended = inl refl; moments = still; afterwards = inl refl })

  pub not_allowed : Bears capacity (Err BadCapacity) s s
  not_allowed = record { ended = refl; moments = still; afterwards = inl refl }

  -- only the first sync was made
  synced_moments : ReadsAsAnImage s → SinceMoments Left s.past (synced s)
  synced_moments reads = weaker_since (MayLeave s.now) Left (λ image left. inl left) s.past (synced s) (synced_since s reads)

  synced_none : IsNoJournal s.content → SinceMoments (NoneOrEmpty capacity) (s.now ∷ s.past) (synced s)
  synced_none none = record { moments = (synced s).now ∷ []; are = refl; later = omega arith; each = (λ image left. inl (subst IsNoJournal (sym left) none), tt) }

  pub only_synced : (t : DiskState) → ReadsAsAnImage s → t ≡ synced s → Bears capacity (Err Disk) s t
  only_synced t reads is =
      subst (λ (u : DiskState). Bears capacity (Err Disk) s u) (sym is) (record { ended = inl refl; moments = synced_moments reads; afterwards = inr synced_none })

  pub made_already : (found : Found) → found ≡ Made → IsFound found s.content → (t : DiskState) → ReadsAsAnImage s → t ≡ synced s → Bears capacity (Err AlreadyMade) s t
  made_already found same is t reads syncs =
      let made = subst (λ f. IsFound f s.content) same is in
      record {
        ended = (made, syncs);
        moments = subst (SinceMoments Left s.past) (sym syncs) (synced_moments reads);
        afterwards = inr (λ none. absurd (none made.0 made.1));
      }

  front_has : (found : Found) → (found ≡ Made → ⊥) → IsFound found s.content → Has (IsFound found) (NoneOrEmpty capacity) (s.now ∷ s.past) (synced s)
  front_has found unmade is = record {
    content = is;
    images = λ image left. subst (IsFound found) (sym left) is;
    moments = synced_none (found_none found s.content unmade is);
  }

  all_moments : (t : DiskState) → SinceMoments (NoneOrEmpty capacity) (s.now ∷ s.past) t → SinceMoments Left s.past t
  all_moments t since = one_earlier Left s.now s.past t (λ image left. inl left) (weaker_since (NoneOrEmpty capacity) Left (λ image either. inr either) (s.now ∷ s.past) t since)

  module _ (found : Found) (unmade : found ≡ Made → ⊥) (is : IsFound found s.content) (t u : DiskState) (syncs : t ≡ synced s) where
    filled : (result : Result (Unit {0}) DiskFault) → Fills (IsFound found) capacity result t u → Filled capacity result (s.now ∷ s.past) u
    filled result fills = fills (s.now ∷ s.past) (subst (Has (IsFound found) (NoneOrEmpty capacity) (s.now ∷ s.past)) (sym syncs) (front_has found unmade is))

    pub making_refused : (fault : DiskFault) → Fills (IsFound found) capacity (Err fault) t u → Bears capacity (Err Disk) s u
    making_refused fault fills =
        let has = filled (Err fault) fills in
        record { ended = inr has.content; moments = all_moments u has.moments; afterwards = inr (λ none. has.moments) }

    pub making_done : (done made : Unit {0}) → Fills (IsFound found) capacity (Ok made) t u → Bears capacity (Ok done) s u
    making_done done made fills =
        let has = filled (Ok made) fills in
        record {
          ended = (found_none found s.content unmade is, record { content = has.content; images = has.images; gate_is = refl });
          moments = all_moments u has.moments;
          afterwards = inr (λ none. has.moments);
        }
