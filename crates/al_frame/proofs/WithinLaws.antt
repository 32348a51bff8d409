-- An entry has a frame exactly where it is within limits.
use Rattle.std.proofs.Common.{◌≡◌, ◌≢◌, ℕ, zero, suc, ◌*◌, ◌<◌, ◌≤◌, ◌^◌, Bool, true, false, not, ◌&&◌, ◌||◌, Option, Some, None, All, List, [], ◌∷◌, length, refl, arith}
use Rattle.std.specs.Bool.{Decides}
use Rattle.std.specs.Cmp.Lexicographic.{pointwise, bytes_decides}
use Rattle.std.specs.List.{AllPairs, list_all, list_any, slice_index_or}
use Rattle.std.specs.Int.{w64}
use Rattle.std.specs.Prelude.{◌==◌, ⊤, nat_le, nat_lt, IfSome}
use Rattle.std.proofs.lemmas.Bool.{false≢true}
use Rattle.std.proofs.lemmas.Bool.Decides.{Decides-and, Decides-at, Decides-like, Decides-ltb, Decides-not, Decides-by_and}
use Rattle.al_base.proofs.FormTests.{decides_age, decides_le, decides_operator_name, decides_text, decides_type_name}
use Rattle.al_base.specs.Identifiers.{IsTypeName, is_type_name}
use Rattle.al_base.specs.Limits.{IsAge, IsResourceText, IsStatusChanges, IsText, age_units, is_age, is_operator_name, is_severity_set, is_stamp, is_text, last_stamp}
use Rattle.al_base.specs.declared.operator.OperatorState.{OperatorState}
use Rattle.al_base.specs.declared.operator.OperatorState.TheVariants.{None0, Ack, Closed, Shelved, UnShelved}
use Rattle.al_base.specs.declared.severity.Status.{Status}
use Rattle.al_ids.specs.Matches.{IsMatch}
use Rattle.al_ids.specs.declared.key.AlarmKey.{AlarmKey}
use Rattle.al_model.specs.Limits.{IsReportWithin, IsOperateWithin, IsTypeMatchWithin, IsShelfWithin, IsPutWithin, IsPurgeWithin, IsCompressWithin, IsIdentityWithin, IsRowWithin, IsInventoryWithin, IsEventWithin, IsEntryWithin}
use Rattle.al_ids.specs.Limits.{IsKeyWithin}
use Rattle.al_base.specs.Operators.{IsOperators, is_operators}
use Rattle.al_model.specs.declared.entry.Entry.{Entry}
use Rattle.al_model.specs.declared.event.Event.{Event}
use Rattle.al_model.specs.declared.event.Event.TheVariants as events
use Rattle.al_notify.specs.declared.rule.NotifyRule.{NotifyRule}
use Rattle.al_select.specs.declared.compress.CompressFilter.{CompressFilter}
use Rattle.al_select.specs.declared.purge.PurgeFilter.{PurgeFilter}
use Rattle.al_shelf.specs.Exact.{same_type_match_decides}
use Rattle.al_shelf.specs.Same.{same_type_match}
use Rattle.al_shelf.specs.declared.shelf.Shelf.{Shelf}
use Rattle.al_shelf.specs.declared.shelf.TypeMatch.{TypeMatch}
use Rattle.al_types.proofs.SoundTests.{decides_sound}
use Rattle.al_types.specs.Inventories.{InventoryView}
use Rattle.al_types.specs.Sound.{is_sound}
use Rattle.al_types.specs.declared.row.Identity.{Identity}
use Rattle.al_types.specs.declared.row.Row.{Row}
use Rattle.al_frame.specs.Formats.{Format, checked, fits_opt, list, number, opt, set, text}
use Rattle.al_base.specs.Repeats.{repeats}
use Rattle.al_ids.specs.Forms.{is_match, is_pattern_text}
use Rattle.al_frame.specs.Frames.{compress, criterion, entry, fits_event, identity, inventory, key, maximum, operate, placed_shelf, purge, report, resource, resource_match, row, rule, shelf, shelf_name, type_name}
use Rattle.al_ids.proofs.MatchTests.{decides_match}
use Rattle.al_frame.proofs.PatternTests.{decides_pattern}

-- ---- parts

-- a text whose form keeps it short enough for its length
decides_piece : {P : Type 0} (test : List ℕ → Bool) (t : List ℕ) → Decides (test t) P → (P → length t < 2 ^ 16) → Decides ((text test).fits t) P
decides_piece {P} test t decides short =
    Decides-like ((text test).fits t) (λ h. h.1) (λ is. (short is, is))
    (Decides-and (nat_lt (length t) (2 ^ 16)) (test t) (Decides-ltb (length t) (2 ^ 16)) decides)

decides_bounded : (least most : ℕ) (t : List ℕ) → most < 2 ^ 16 → Decides ((text (is_text least most)).fits t) (IsText least most t)
decides_bounded least most t small =
    decides_piece (is_text least most) t (decides_text least most t) (λ is. let long : length t ≤ most = is.longest in omega arith)

decides_name : (t : List ℕ) → Decides (type_name.fits t) (IsTypeName t)
decides_name t = decides_piece is_type_name t (decides_type_name t) (λ is. let long : length t ≤ 128 = is.longest in omega arith)

decides_criterion_text : (t : List ℕ) → Decides (resource_match.fits t) (IsMatch t)
decides_criterion_text t = decides_piece is_match t (decides_match t) (λ is. let long : length t ≤ 512 = is.sized.longest in omega arith)

decides_opt : {A : Type 0} (fits : A → Bool) (P : A → Type 0) → ((a : A) → Decides (fits a) (P a)) → (o : Option A) → Decides (fits_opt fits o) (IfSome o P)
decides_opt fits P each None = (λ h. tt, λ h. refl)
decides_opt fits P each (Some a) = each a

decides_all : {A : Type 0} (fits : A → Bool) (P : A → Type 0) → ((a : A) → Decides (fits a) (P a)) → (xs : List A) → Decides (list_all fits xs) (All P xs)
decides_all fits P each xs = Decides-by_and fits P (list_all fits) each refl (λ _ _. refl) xs

decides_list : {A : Type 0} (most : ℕ) (f : Format A) (P : A → Type 0) → ((a : A) → Decides (f.fits a) (P a)) → (xs : List A) → Decides ((list most f).fits xs) ((length xs ≤ most) × All P xs)
decides_list most f P each xs = Decides-and (nat_le (length xs) most) (list_all f.fits xs) (decides_le (length xs) most) (decides_all f.fits P each xs)

-- ---- lists without repeats

not_or : (a b : Bool) → not (a || b) ≡ (not a && not b)
not_or true b = refl
not_or false b = refl

abbrev Differ : {A : Type 0} → A → A → Type 0
Differ a b = a ≢ b

pairs_of : {A : Type 0} (x : A) (xs : List A) → AllPairs Differ (x ∷ xs) → All (Differ x) xs × AllPairs Differ xs
pairs_of x xs h = (λ k d lt. h 0 (suc k) d (omega arith) (omega arith), λ i j d lt within. h (suc i) (suc j) d (omega arith) (omega arith))

pairs_from : {A : Type 0} (x : A) (xs : List A) → All (Differ x) xs → AllPairs Differ xs → AllPairs Differ (x ∷ xs)
pairs_from x xs first others zero zero d lt within = absurd (omega arith)
pairs_from x xs first others zero (suc j) d lt within = first j d (omega arith)
pairs_from x xs first others (suc i) zero d lt within = absurd (omega arith)
pairs_from x xs first others (suc i) (suc j) d lt within = others i j d (omega arith) (omega arith)

decides_new : {A : Type 0} (same : A → A → Bool) → ((a b : A) → Decides (same a b) (a ≡ b)) → (x : A) (xs : List A) → Decides (not (list_any (same x) xs)) (All (Differ x) xs)
decides_new same exact x xs =
    Decides-by_and (λ y. not (same x y)) (Differ x) (λ ys. not (list_any (same x) ys)) (λ y. Decides-not (same x y) (exact x y)) refl
    (λ y ys. not_or (same x y) (list_any (same x) ys)) xs

decides_distinct : {A : Type 0} (same : A → A → Bool) → ((a b : A) → Decides (same a b) (a ≡ b)) → (xs : List A) → Decides (not (repeats same xs)) (AllPairs Differ xs)
decides_distinct same exact [] = (λ h. λ i j d lt within. absurd (omega arith), λ h. refl)
decides_distinct same exact (x ∷ xs) =
    Decides-like (not (repeats same (x ∷ xs))) (λ h. pairs_from x xs h.0 h.1) (λ h. pairs_of x xs h)
    (Decides-at (not (repeats same (x ∷ xs))) (not (list_any (same x) xs) && not (repeats same xs)) (not_or (list_any (same x) xs) (repeats same xs))
    (Decides-and (not (list_any (same x) xs)) (not (repeats same xs)) (decides_new same exact x xs) (decides_distinct same exact xs)))

decides_set : {A : Type 0} (most : ℕ) (same : A → A → Bool) (f : Format A) (P : A → Type 0) → ((a b : A) → Decides (same a b) (a ≡ b)) → ((a : A) → Decides (f.fits a) (P a)) → (xs : List A)
    → Decides ((set most same f).fits xs) (((length xs ≤ most) × All P xs) × AllPairs Differ xs)
decides_set most same f P exact each xs =
    Decides-and ((list most f).fits xs) (not (repeats same xs)) (decides_list most f P each xs) (decides_distinct same exact xs)

-- ---- reports and operator actions

decides_key : (k : AlarmKey) → Decides (key.fits k) (IsKeyWithin k)
unfolding key
decides_key k =
    Decides-like (key.fits k) (λ h. record { resource = h.0; type_id = h.1.0; qualifier = h.1.1 }) (λ is. (is.resource, (is.type_id, is.qualifier)))
    (Decides-and (resource.fits k.resource) (type_name.fits k.type_id && (text (is_text 0 255)).fits k.qualifier) (decides_bounded 1 512 k.resource (omega arith))
    (Decides-and (type_name.fits k.type_id) ((text (is_text 0 255)).fits k.qualifier) (decides_name k.type_id) (decides_bounded 0 255 k.qualifier (omega arith))))

decides_report : (k : AlarmKey) (status : Status) (t : List ℕ) → Decides (report.fits (k, (status, t))) (IsReportWithin k t)
unfolding report
decides_report k status t =
    Decides-like (report.fits (k, (status, t))) (λ h. record { key_within = h.0; text_within = h.1 }) (λ is. (is.key_within, is.text_within))
    (Decides-and (key.fits k) ((text (is_text 0 255)).fits t) (decides_key k) (decides_bounded 0 255 t (omega arith)))

decides_operators : (state : OperatorState) → Decides (is_operators state) (IsOperators state)
decides_operators None0 = (λ h. tt, λ h. refl)
decides_operators Ack = (λ h. tt, λ h. refl)
decides_operators Closed = (λ h. tt, λ h. refl)
decides_operators Shelved = (λ h. absurd (false≢true h), λ h. absurd h)
decides_operators UnShelved = (λ h. absurd (false≢true h), λ h. absurd h)

decides_operate : (k : AlarmKey) (state : OperatorState) (operator : List ℕ) (t : Option (List ℕ)) → Decides (operate.fits (k, (state, (operator, t)))) (IsOperateWithin k state operator t)
unfolding operate
decides_operate k state operator t =
    let name : Bool = (text is_operator_name).fits operator in
    let told : Bool = (opt (text (is_text 0 255))).fits t in
    Decides-like (operate.fits (k, (state, (operator, t))))
    (λ h. record { key_within = h.0; state_within = h.1.0; operator_within = h.1.1.0; text_within = h.1.1.1 })
    (λ is. (is.key_within, (is.state_within, (is.operator_within, is.text_within))))
    (Decides-and (key.fits k) (is_operators state && (name && told)) (decides_key k)
    (Decides-and (is_operators state) (name && told) (decides_operators state)
    (Decides-and name told (decides_piece is_operator_name operator (decides_operator_name operator) (λ is. let long : length operator ≤ 64 = is.longest in omega arith))
    (decides_opt (text (is_text 0 255)).fits (IsText 0 255) (λ t. decides_bounded 0 255 t (omega arith)) t))))

-- ---- the rules of the list

decides_max : (max : Option ℕ) → Decides (maximum.fits max) (IfSome max IsStatusChanges)
unfolding maximum
decides_max None = (λ h. tt, λ h. refl)
decides_max (Some most) = Decides-and (nat_le 1 most) (nat_le most 65535) (decides_le 1 most) (decides_le most 65535)

-- ---- shelves

decides_criterion : (m : TypeMatch) → Decides (criterion.fits m) (IsTypeMatchWithin m)
unfolding criterion
decides_criterion m =
    Decides-like (criterion.fits m) (λ h. record { type_id = h.0; qualifier = h.1 }) (λ is. (is.type_id, is.qualifier))
    (Decides-and (type_name.fits m.type_id) ((text is_pattern_text).fits m.qualifier) (decides_name m.type_id)
    (decides_piece is_pattern_text m.qualifier (decides_pattern m.qualifier) (λ is. let long : length m.qualifier ≤ 255 = is.text.longest in omega arith)))

decides_shelf : (s : Shelf) → Decides (shelf.fits s) (IsShelfWithin s)
unfolding shelf
decides_shelf s =
    let resources : Bool = (set 64 (pointwise ◌==◌) resource_match).fits s.resources in
    let types : Bool = (set 64 same_type_match criterion).fits s.types in
    let described : Bool = (opt (text (is_text 0 255))).fits s.description in
    Decides-like (shelf.fits s)
    (λ h. record { name = h.0; few_resources = h.1.0.0.0; resources = h.1.0.0.1; other_resources = h.1.0.1; few_types = h.1.1.0.0.0; types = h.1.1.0.0.1; other_types = h.1.1.0.1; description = h.1.1.1 })
    (λ is. (is.name, (((is.few_resources, is.resources), is.other_resources), (((is.few_types, is.types), is.other_types), is.description))))
    (Decides-and (shelf_name.fits s.name) (resources && (types && described)) (decides_bounded 1 64 s.name (omega arith))
    (Decides-and resources (types && described) (decides_set 64 (pointwise ◌==◌) resource_match IsMatch bytes_decides decides_criterion_text s.resources)
    (Decides-and types described (decides_set 64 same_type_match criterion IsTypeMatchWithin same_type_match_decides decides_criterion s.types)
    (decides_opt (text (is_text 0 255)).fits (IsText 0 255) (λ t. decides_bounded 0 255 t (omega arith)) s.description))))

decides_put : (s : Shelf) (at : ℕ) → Decides (placed_shelf.fits (s, at)) (IsPutWithin s at)
decides_put s at =
    Decides-like (placed_shelf.fits (s, at)) (λ h. record { shelf_within = h.0; at_within = h.1 }) (λ is. (is.shelf_within, is.at_within))
    (Decides-and (shelf.fits s) (nat_lt at 256) (decides_shelf s) (Decides-ltb at 256))

-- ---- filters

-- the longest age is 65,535 weeks
age_small : (age : ℕ) → IsAge age → age < 2 ^ 64
age_small age is = unit_small age is.count is.unit is.known.0 is.few is.is is.known.1 is.known.2 where
  unit_small : (age count unit place : ℕ) → count ≤ 65535 → age ≡ count * unit → place < 5 → slice_index_or age_units place unit ≡ unit → age < 2 ^ 64
  unit_small age count unit zero few is lt at = rw (is, ← at) (omega arith)
  unit_small age count unit (suc zero) few is lt at = rw (is, ← at) (omega arith)
  unit_small age count unit (suc (suc zero)) few is lt at = rw (is, ← at) (omega arith)
  unit_small age count unit (suc (suc (suc zero))) few is lt at = rw (is, ← at) (omega arith)
  unit_small age count unit (suc (suc (suc (suc zero)))) few is lt at = rw (is, ← at) (omega arith)
  unit_small age count unit (suc (suc (suc (suc (suc place))))) few is lt at = absurd (omega arith)

decides_any : {A : Type 0} (o : Option A) → Decides (fits_opt (λ w. true) o) ⊤
decides_any None = (λ h. tt, λ h. refl)
decides_any (Some a) = (λ h. tt, λ h. refl)

decides_old : (age : ℕ) → Decides ((checked is_age (number w64)).fits age) (IsAge age)
decides_old age =
    Decides-like ((checked is_age (number w64)).fits age) (λ h. h.1) (λ is. (age_small age is, is))
    (Decides-and (nat_lt age (2 ^ 64)) (is_age age) (Decides-ltb age (2 ^ 64)) (decides_age age))

decides_purge : (f : PurgeFilter) → Decides (purge.fits f) (IsPurgeWithin f)
unfolding purge
decides_purge f =
    let age : Bool = (opt (checked is_age (number w64))).fits f.age in
    let stated : Bool = fits_opt (λ w. true) f.state in
    let user : Bool = (opt (text (is_text 0 64))).fits f.user in
    Decides-like (purge.fits f) (λ h. record { age = h.0; user = h.1.1 }) (λ is. (is.age, (tt, is.user)))
    (Decides-and age (stated && user) (decides_opt (checked is_age (number w64)).fits IsAge decides_old f.age)
    (Decides-and stated user (decides_any f.state) (decides_opt (text (is_text 0 64)).fits (IsText 0 64) (λ t. decides_bounded 0 64 t (omega arith)) f.user)))

decides_compress : (f : CompressFilter) → Decides (compress.fits f) (IsCompressWithin f)
unfolding compress
decides_compress f =
    let resource : Bool = (opt resource_match).fits f.resource in
    let type_id : Bool = (opt type_name).fits f.type_id in
    let qualifier : Bool = (opt (text (is_text 0 255))).fits f.qualifier in
    Decides-like (compress.fits f) (λ h. record { resource = h.0; type_id = h.1.0; qualifier = h.1.1 }) (λ is. (is.resource, (is.type_id, is.qualifier)))
    (Decides-and resource (type_id && qualifier) (decides_opt resource_match.fits IsMatch decides_criterion_text f.resource)
    (Decides-and type_id qualifier (decides_opt type_name.fits IsTypeName decides_name f.type_id)
    (decides_opt (text (is_text 0 255)).fits (IsText 0 255) (λ t. decides_bounded 0 255 t (omega arith)) f.qualifier)))

-- ---- inventories

decides_identity : (i : Identity) → Decides (identity.fits i) (IsIdentityWithin i)
unfolding identity
decides_identity i =
    Decides-like (identity.fits i) (λ h. record { name = h.0; base = h.1 }) (λ is. (is.name, is.base))
    (Decides-and (type_name.fits i.name) (type_name.fits i.base) (decides_name i.name) (decides_name i.base))

-- so few that they fit in a byte
decides_severities : (set : ℕ) → Decides (nat_lt set 256 && is_severity_set set) (set ≤ 31)
decides_severities set =
    Decides-like (nat_lt set 256 && is_severity_set set) (λ h. h.1) (λ few. (omega arith, few))
    (Decides-and (nat_lt set 256) (is_severity_set set) (Decides-ltb set 256) (decides_le set 31))

decides_alone : {P : Type 0} (test : Bool) → Decides test P → Decides (test && true) P
decides_alone true decides = decides
decides_alone false decides = decides

decides_row : (r : Row) → Decides (row.fits r) (IsRowWithin r)
unfolding row
decides_row r =
    let qualifier : Bool = (text (is_text 0 255)).fits r.qualifier in
    let resources : Bool = (list 64 resource).fits r.resources in
    let severities : Bool = nat_lt r.severities 256 && is_severity_set r.severities in
    let description : Bool = (text (is_text 0 255)).fits r.description && true in
    Decides-like (row.fits r)
    (λ h. record { type_id = h.0; qualifier = h.1.0; few_resources = h.1.1.0.0; resources = h.1.1.0.1; severities = h.1.1.1.0; description = h.1.1.1.1 })
    (λ is. (is.type_id, (is.qualifier, ((is.few_resources, is.resources), (is.severities, is.description)))))
    (Decides-and (type_name.fits r.type_id) (qualifier && (resources && (severities && description))) (decides_name r.type_id)
    (Decides-and qualifier (resources && (severities && description)) (decides_bounded 0 255 r.qualifier (omega arith))
    (Decides-and resources (severities && description) (decides_list 64 resource IsResourceText (λ t. decides_bounded 1 512 t (omega arith)) r.resources)
    (Decides-and severities description (decides_severities r.severities)
    (decides_alone ((text (is_text 0 255)).fits r.description) (decides_bounded 0 255 r.description (omega arith)))))))

decides_inventory : (i : InventoryView) → Decides (inventory.fits i) (IsInventoryWithin i)
unfolding inventory
decides_inventory i =
    let identities : Bool = (list 2000 identity).fits i.identities in
    let rows : Bool = (list 2000 row).fits i.rows in
    Decides-like (inventory.fits i)
    (λ h. record { sound = h.1; identities = h.0.0.1; rows = h.0.1.1 })
    (λ is. (((is.sound.few.0, is.identities), (is.sound.few.1, is.rows)), is.sound))
    (Decides-and (identities && rows) (is_sound i.identities i.rows)
    (Decides-and identities rows (decides_list 2000 identity IsIdentityWithin decides_identity i.identities) (decides_list 2000 row IsRowWithin decides_row i.rows))
    (decides_sound i.identities i.rows))

-- ---- events and entries

decides_rule : (r : NotifyRule) → Decides (rule.fits r) ⊤
unfolding rule
decides_rule r = (λ h. tt, λ h. refl)

decides_time : (ms : ℕ) → Decides (nat_lt ms (2 ^ 64) && is_stamp ms) (ms ≤ last_stamp)
decides_time ms =
    Decides-like (nat_lt ms (2 ^ 64) && is_stamp ms) (λ h. h.1) (λ early. (omega arith, early))
    (Decides-and (nat_lt ms (2 ^ 64)) (is_stamp ms) (Decides-ltb ms (2 ^ 64)) (decides_le ms last_stamp))

decides_event : (e : Event) → Decides (fits_event e) (IsEventWithin e)
unfolding IsEventWithin
decides_event (events.Report k status t) = decides_report k status t
decides_event (events.Operate k state operator t) = decides_operate k state operator t
decides_event (events.SetMax max) = decides_max max
decides_event (events.SetNotify r) = decides_rule r
decides_event (events.PutShelf s at) = decides_put s at
decides_event (events.DropShelf name) = decides_bounded 1 64 name (omega arith)
decides_event (events.Purge s filter) = decides_purge filter
decides_event (events.Compress s filter) = decides_compress filter
decides_event (events.Install i) = decides_inventory i

pub decides_entry : (e : Entry) → Decides (entry.fits e) (IsEntryWithin e)
unfolding entry
decides_entry e =
    let time : Bool = nat_lt e.time (2 ^ 64) && is_stamp e.time in
    let origin : Bool = nat_lt e.origin (2 ^ 16) in
    Decides-like (entry.fits e) (λ h. record { time = h.0; origin = h.1.0; event = h.1.1 }) (λ is. (is.time, (is.origin, is.event)))
    (Decides-and time (origin && fits_event e.event) (decides_time e.time)
    (Decides-and origin (fits_event e.event) (Decides-ltb e.origin (2 ^ 16)) (decides_event e.event)))
