-- Laws on the slots of a layout, and on the first record that fails a test.
use mathlib.Core.Path.{◌≡◌, refl, ap, ◌∙◌}
use mathlib.Core.Bool.{Bool, true, false, cond}
use mathlib.Core.List.{List, [], ◌∷◌, ◌++◌, map}
use Prim.Native.Nat.{ℕ, zero, suc, ◌+◌, ◌-◌, ◌*◌, ◌≤◌, ◌<◌}
use native.Mathlib.Nat.{not-suc-le-zero, le_of_suc-le-suc}
use native.Mathlib.Omega.{arith}
use lib.IntN.{pos, nat_abs}
use lib.ListN.{length, drop, get_or, length-append, length-take, length-drop, length-map, drop_of_length-le, get_or-map}
use lib.Seq.{get_or-take, get_or-drop, drop-cons}
use Rattle.method.specs.Sheet.{Kind, month, rate, volume, ultimate, limit, phase_in, adjustment, profile, body_length, maturities, Entry, entry}
use Rattle.method.specs.Sheet.{Profile, euro, from_ten, from_fifteen, quote_count, smoothing_index, volume_count, quoted_maturities, volume_maturities}
use Rattle.method.specs.Sheet.{total, bytes_of, optional, Layout, layout_of, entries_of, size_of, Slot, slots_from, slots_of, slot, no_slot, slot_at}
use Rattle.method.specs.Sheet.{number_of_record, all_numbers, sheet_numbers, first_failure, month_index, rate_index, volume_index, ultimate_index}
use Rattle.method.proofs.Outcome.{split}

-- ---- records one after the other

bytes_append : (es fs : List Entry) → bytes_of (es ++ fs) ≡ bytes_of es + bytes_of fs
unfolding bytes_of total
bytes_append [] fs = omega arith
bytes_append (e ∷ es) fs = omega (arith, bytes_append es fs)

bytes_of_kind : (k : Kind) (ms : List ℕ) → bytes_of (map (entry k) ms) ≡ (1 + body_length k) * length ms
unfolding bytes_of total
bytes_of_kind k [] = omega arith
bytes_of_kind k (m ∷ ms) = omega (arith, bytes_of_kind k ms)

bytes_of-optional : (b : Bool) (k : Kind) → bytes_of (optional b k) ≡ cond b (1 + body_length k) 0
unfolding bytes_of total
bytes_of-optional true k = omega arith
bytes_of-optional false k = refl

optional-length : (b : Bool) (k : Kind) → length (optional b k) ≡ cond b 1 0
optional-length true k = refl
optional-length false k = refl

slots_count : (s : ℕ) (es : List Entry) → length (slots_from s es) ≡ length es
unfolding slots_from
slots_count s [] = refl
slots_count s (e ∷ es) = ap suc (slots_count (s + 1 + body_length e.kind) es)

-- a slot behind others starts behind their bytes
slots_behind : (es fs : List Entry) (s i j n : ℕ) → i ≡ length es + j → n ≡ s + bytes_of es →
    get_or (slots_from s (es ++ fs)) i no_slot ≡ get_or (slots_from n fs) j no_slot
unfolding slots_from bytes_of total
slots_behind [] fs s i j n at start =
    let here : i ≡ j = omega arith in
    let same : n ≡ s = omega arith in
    rw (here, same) refl
slots_behind (e ∷ es) fs s i j n at start =
    let one : i ≡ suc (length es + j) = omega arith in
    rw one (slots_behind es fs (s + 1 + body_length e.kind) (length es + j) j n refl (omega arith))

-- records of one kind start at equal distances
slots_of_kind : (k : Kind) (s : ℕ) (ms : List ℕ) (es : List Entry) (j : ℕ) → j < length ms →
    get_or (slots_from s (map (entry k) ms ++ es)) j no_slot ≡ slot k (get_or ms j 0) (s + (1 + body_length k) * j)
unfolding slots_from
slots_of_kind k s [] es j h = absurd (not-suc-le-zero h)
slots_of_kind k s (m ∷ ms) es zero h = ap (slot k m) (omega arith)
slots_of_kind k s (m ∷ ms) es (suc j) h =
    slots_of_kind k (s + 1 + body_length k) ms es j (le_of_suc-le-suc h) ∙ ap (slot k (get_or ms j 0)) (omega arith)

-- a slot starts behind what stands before all of them
slots_from_lem : (s : ℕ) (es : List Entry) (j : ℕ) → j < length es → s ≤ (get_or (slots_from s es) j no_slot).start
unfolding slots_from
slots_from_lem s [] j h = absurd (not-suc-le-zero h)
slots_from_lem s (e ∷ es) zero h = omega arith
slots_from_lem s (e ∷ es) (suc j) h = omega (arith, slots_from_lem (s + 1 + body_length e.kind) es j (le_of_suc-le-suc h))

-- ---- the markets

pub quotes_most : (p : Profile) → quote_count p ≤ 17
quotes_most euro = omega arith
quotes_most from_ten = omega arith
quotes_most from_fifteen = omega arith

-- the volumes begin inside the quotes
pub smoothing_inside : (p : Profile) → smoothing_index p + volume_count p ≡ quote_count p
smoothing_inside euro = refl
smoothing_inside from_ten = refl
smoothing_inside from_fifteen = refl

pub some_volume : (p : Profile) → 1 ≤ volume_count p
some_volume euro = omega arith
some_volume from_ten = omega arith
some_volume from_fifteen = omega arith

pub volumes_most : (p : Profile) → volume_count p ≤ 5
volumes_most euro = omega arith
volumes_most from_ten = omega arith
volumes_most from_fifteen = omega arith

pub quoted_count : (p : Profile) → length (quoted_maturities p) ≡ quote_count p
unfolding maturities quoted_maturities
quoted_count euro = refl
quoted_count from_ten = refl
quoted_count from_fifteen = refl

pub volume_count_lem : (p : Profile) → length (volume_maturities p) ≡ volume_count p
unfolding maturities quoted_maturities volume_maturities
volume_count_lem euro = refl
volume_count_lem from_ten = refl
volume_count_lem from_fifteen = refl

-- the maturities of a market are the table's
pub quoted_at : (p : Profile) (j : ℕ) → j < quote_count p → get_or (quoted_maturities p) j 0 ≡ get_or maturities j 0
unfolding quoted_maturities
quoted_at p j h = get_or-take (quote_count p) maturities j 0 h

pub volume_at_maturity : (p : Profile) (j : ℕ) → j < volume_count p → get_or (volume_maturities p) j 0 ≡ get_or maturities (smoothing_index p + j) 0
unfolding volume_maturities
volume_at_maturity p j h =
    get_or-drop (smoothing_index p) (quoted_maturities p) j 0 ∙ quoted_at p (smoothing_index p + j) (omega (arith, smoothing_inside p))

-- ---- the slots of a layout

-- the bytes of the profile's record, where it stands
abbrev pub lead_bytes : Bool → ℕ
lead_bytes led = cond led 2 0

-- where the rates start, the volumes, the ultimate rate, and what follows the limit
abbrev pub rate_start : Bool → ℕ
rate_start led = lead_bytes led + 3

abbrev pub volume_start : Bool → Profile → ℕ
volume_start led p = rate_start led + 4 * quote_count p

abbrev pub ultimate_start : Bool → Profile → ℕ
ultimate_start led p = volume_start led p + 6 * volume_count p

abbrev pub last_start : Bool → Profile → ℕ
last_start led p = ultimate_start led p + 8

-- three bytes for each of the two records that stands behind the limit's
abbrev pub size_by : Layout → ℕ
size_by l = last_start l.led l.profile + cond l.phased 3 0 + cond l.adjusts 3 0

-- and one slot
abbrev pub count_by : Layout → ℕ
count_by l = ultimate_index l + 2 + cond l.phased 1 0 + cond l.adjusts 1 0

-- the bytes before those are the market's own, in all 57 to 111
first_bytes_lem : (led : Bool) (p : Profile) → (57 ≤ last_start led p) × (last_start led p ≤ 111)
first_bytes_lem true euro = omega arith
first_bytes_lem true from_ten = omega arith
first_bytes_lem true from_fifteen = omega arith
first_bytes_lem false euro = omega arith
first_bytes_lem false from_ten = omega arith
first_bytes_lem false from_fifteen = omega arith

at_most_3 : (b : Bool) → cond b 3 0 ≤ 3
at_most_3 true = omega arith
at_most_3 false = omega arith

at_most_1 : (b : Bool) → cond b 1 0 ≤ 1
at_most_1 true = omega arith
at_most_1 false = omega arith

module _ (l : Layout) where
  -- what stands from each place on
  abbrev lead : List Entry
  lead = optional l.led profile

  abbrev rates : List Entry
  rates = map (entry rate) (quoted_maturities l.profile)

  abbrev volumes : List Entry
  volumes = map (entry volume) (volume_maturities l.profile)

  abbrev from_last : List Entry
  from_last = optional l.phased phase_in ++ optional l.adjusts adjustment

  abbrev from_ultimate : List Entry
  from_ultimate = entry ultimate 0 ∷ entry limit 0 ∷ from_last

  abbrev from_volumes : List Entry
  from_volumes = volumes ++ from_ultimate

  abbrev from_rates : List Entry
  from_rates = rates ++ from_volumes

  abbrev from_month : List Entry
  from_month = entry month 0 ∷ from_rates

  lead_bytes_lem : bytes_of lead ≡ lead_bytes l.led
  lead_bytes_lem = bytes_of-optional l.led profile

  lead_length : length lead ≡ month_index l
  lead_length = optional-length l.led profile

  rates_bytes : bytes_of rates ≡ 4 * quote_count l.profile
  rates_bytes = bytes_of_kind rate (quoted_maturities l.profile) ∙ ap (λ (k : ℕ). 4 * k) (quoted_count l.profile)

  rates_count : length rates ≡ quote_count l.profile
  rates_count = length-map (quoted_maturities l.profile) (entry rate) ∙ quoted_count l.profile

  volumes_bytes : bytes_of volumes ≡ 6 * volume_count l.profile
  volumes_bytes = bytes_of_kind volume (volume_maturities l.profile) ∙ ap (λ (k : ℕ). 6 * k) (volume_count_lem l.profile)

  volumes_count : length volumes ≡ volume_count l.profile
  volumes_count = length-map (volume_maturities l.profile) (entry volume) ∙ volume_count_lem l.profile

  pub size_is : size_of l ≡ size_by l
  unfolding size_of entries_of bytes_of total
  size_is =
      bytes_append lead from_month
      ∙ omega (
        arith,
        lead_bytes_lem,
        bytes_append rates from_volumes,
        rates_bytes,
        bytes_append volumes from_ultimate,
        volumes_bytes,
        bytes_append (optional l.phased phase_in) (optional l.adjusts adjustment),
        bytes_of-optional l.phased phase_in,
        bytes_of-optional l.adjusts adjustment,
      )

  pub size_least : 57 ≤ size_of l
  size_least = omega (arith, size_is, (first_bytes_lem l.led l.profile).0)

  pub size_most : size_of l ≤ 117
  size_most = omega (arith, size_is, (first_bytes_lem l.led l.profile).1, at_most_3 l.phased, at_most_3 l.adjusts)

  volumes_last : length (slots_of l) ≡ volume_index l + length from_volumes
  unfolding slots_of entries_of
  volumes_last =
      slots_count 0 (entries_of l) ∙ omega (arith, length-append lead from_month, lead_length, length-append rates from_volumes, rates_count)

  pub slots_length : length (slots_of l) ≡ count_by l
  slots_length =
      volumes_last
      ∙ omega (
        arith,
        length-append volumes from_ultimate,
        volumes_count,
        length-append (optional l.phased phase_in) (optional l.adjusts adjustment),
        optional-length l.phased phase_in,
        optional-length l.adjusts adjustment,
      )

  pub slots_least : ultimate_index l + 2 ≤ length (slots_of l)
  slots_least = rw slots_length (omega arith)

  pub slots_most : length (slots_of l) ≤ 28
  slots_most =
      let few : quote_count l.profile + volume_count l.profile ≤ 22 = omega (arith, quotes_most l.profile, volumes_most l.profile) in
      rw slots_length (omega (arith, at_most_1 l.led, at_most_1 l.phased, at_most_1 l.adjusts))

  pub slots_phased : l.phased ≡ true → ultimate_index l + 3 ≤ length (slots_of l)
  slots_phased e = rw (slots_length, e) (omega arith)

  pub slots_adjusts : l.adjusts ≡ true → length (slots_of l) ≡ ultimate_index l + 3 + cond l.phased 1 0
  slots_adjusts e = rw (slots_length, e) (omega arith)

  pub profile_slot : l.led ≡ true → slot_at l 0 ≡ slot profile 0 0
  unfolding slots_of entries_of slots_from
  profile_slot e = rw e refl

  -- behind the lead, the rates, the volumes
  month_on : (j : ℕ) → slot_at l (month_index l + j) ≡ get_or (slots_from (lead_bytes l.led) from_month) j no_slot
  unfolding slots_of entries_of
  month_on j = slots_behind lead _ 0 (month_index l + j) j (lead_bytes l.led) (omega (arith, lead_length)) (omega (arith, lead_bytes_lem))

  rates_on : (j : ℕ) → slot_at l (rate_index l + j) ≡ get_or (slots_from (rate_start l.led) from_rates) j no_slot
  unfolding slots_from
  rates_on j =
      let next : rate_index l + j ≡ month_index l + suc j = omega arith in
      rw next (month_on (suc j) ∙ ap (λ (n : ℕ). get_or (slots_from n from_rates) j no_slot) (omega arith))

  volumes_on : (j : ℕ) → slot_at l (volume_index l + j) ≡ get_or (slots_from (volume_start l.led l.profile) from_volumes) j no_slot
  volumes_on j =
      let next : volume_index l + j ≡ rate_index l + (quote_count l.profile + j) = omega arith in
      rw next
      (rates_on (quote_count l.profile + j)
      ∙ slots_behind rates _ (rate_start l.led) _ j (volume_start l.led l.profile) (omega (arith, rates_count)) (omega (arith, rates_bytes)))

  ultimate_on : (j : ℕ) → slot_at l (ultimate_index l + j) ≡ get_or (slots_from (ultimate_start l.led l.profile) from_ultimate) j no_slot
  ultimate_on j =
      let next : ultimate_index l + j ≡ volume_index l + (volume_count l.profile + j) = omega arith in
      rw next
      (volumes_on (volume_count l.profile + j)
      ∙ slots_behind volumes _ (volume_start l.led l.profile) _ j (ultimate_start l.led l.profile)
      (omega (arith, volumes_count)) (omega (arith, volumes_bytes)))

  pub month_slot : slot_at l (month_index l) ≡ slot month 0 (lead_bytes l.led)
  unfolding slots_from
  month_slot = ap (slot_at l) (omega arith) ∙ month_on 0

  month_ends : (i : ℕ) → i ≡ month_index l → (slot_at l i).start + 1 + body_length (slot_at l i).kind ≤ rate_start l.led
  month_ends i e = rw (e, month_slot) (omega arith)

  pub rate_slot : (j : ℕ) → j < quote_count l.profile → slot_at l (rate_index l + j) ≡ slot rate (get_or maturities j 0) (rate_start l.led + 4 * j)
  rate_slot j h =
      rates_on j
      ∙ slots_of_kind rate (rate_start l.led) (quoted_maturities l.profile) _ j (rw (quoted_count l.profile) h)
      ∙ ap (λ (m : ℕ). slot rate m (rate_start l.led + 4 * j)) (quoted_at l.profile j h)

  pub volume_slot : (j : ℕ) → j < volume_count l.profile →
      slot_at l (volume_index l + j) ≡ slot volume (get_or maturities (smoothing_index l.profile + j) 0) (volume_start l.led l.profile + 6 * j)
  volume_slot j h =
      volumes_on j
      ∙ slots_of_kind volume (volume_start l.led l.profile) (volume_maturities l.profile) _ j (rw (volume_count_lem l.profile) h)
      ∙ ap (λ (m : ℕ). slot volume m (volume_start l.led l.profile + 6 * j)) (volume_at_maturity l.profile j h)

  pub ultimate_slot : slot_at l (ultimate_index l) ≡ slot ultimate 0 (ultimate_start l.led l.profile)
  unfolding slots_from
  ultimate_slot = ap (slot_at l) (omega arith) ∙ ultimate_on 0

  pub limit_slot : slot_at l (ultimate_index l + 1) ≡ slot limit 0 (ultimate_start l.led l.profile + 3)
  unfolding slots_from
  limit_slot = ultimate_on 1 ∙ ap (slot limit 0) (omega arith)

  last_on : (j : ℕ) → slot_at l (ultimate_index l + 2 + j) ≡ get_or (slots_from (last_start l.led l.profile) from_last) j no_slot
  unfolding slots_from
  last_on j =
      let next : ultimate_index l + 2 + j ≡ ultimate_index l + suc (suc j) = omega arith in
      rw next (ultimate_on (suc (suc j)) ∙ ap (λ (n : ℕ). get_or (slots_from n from_last) j no_slot) (omega arith))

  pub phase_in_slot : l.phased ≡ true → slot_at l (ultimate_index l + 2) ≡ slot phase_in 0 (last_start l.led l.profile)
  unfolding slots_from
  phase_in_slot e = ap (slot_at l) (omega arith) ∙ last_on 0 ∙ rw e refl

  -- the last, whether the phase-in's stands before it or not
  pub adjustment_slot : l.adjusts ≡ true →
      slot_at l (ultimate_index l + 2 + cond l.phased 1 0) ≡ slot adjustment 0 (last_start l.led l.profile + cond l.phased 3 0)
  unfolding slots_from
  adjustment_slot e =
      let start = last_start l.led l.profile in
      last_on (cond l.phased 1 0)
      ∙ slots_behind (optional l.phased phase_in) (optional l.adjusts adjustment) start (cond l.phased 1 0) 0 (start + cond l.phased 3 0)
      (omega (arith, optional-length l.phased phase_in)) (omega (arith, bytes_of-optional l.phased phase_in))
      ∙ rw e refl

  -- the records before the rates end where those start, and the records behind them start where those end
  pub before_rates : (i : ℕ) → i < rate_index l → (slot_at l i).start + 1 + body_length (slot_at l i).kind ≤ rate_start l.led
  before_rates zero h = split l.led (λ e. rw (profile_slot e, e) (omega arith)) (λ e. month_ends zero (rw e refl))
  before_rates (suc i) h = month_ends (suc i) (omega (arith, at_most_1 l.led))

  pub behind_rates : (i : ℕ) → volume_index l ≤ i → i < length (slots_of l) → volume_start l.led l.profile ≤ (slot_at l i).start
  behind_rates i from h =
      let at : i ≡ volume_index l + (i - volume_index l) = omega arith in
      rw (at, volumes_on (i - volume_index l)) (slots_from_lem _ from_volumes (i - volume_index l) (omega (arith, volumes_last)))

-- ---- the first failure, one slot after the other

module _ (p : Slot → Bool) (ts : List Slot) (i : ℕ) where
  pub failure_later : i < length ts → p (get_or ts i no_slot) ≡ true → first_failure p (suc i) (drop i ts) ≡ first_failure p (suc (suc i)) (drop (suc i) ts)
  unfolding first_failure
  failure_later h e = rw (drop-cons ts i no_slot h, e)

  pub failure_here : i < length ts → p (get_or ts i no_slot) ≡ false → first_failure p (suc i) (drop i ts) ≡ suc i
  unfolding first_failure
  failure_here h e = rw (drop-cons ts i no_slot h, e)

  pub failure_none : length ts ≤ i → first_failure p (suc i) (drop i ts) ≡ 0
  unfolding first_failure
  failure_none h = rw (drop_of_length-le ts h)

passed : (b : Bool) (rest i : ℕ) → cond b rest (suc i) ≡ 0 → (b ≡ true) × (rest ≡ 0)
passed true rest i e = (refl, e)
passed false rest i e = absurd (omega arith)

-- no failure: every slot passes
pub none_fails : (p : Slot → Bool) (i : ℕ) (ts : List Slot) → first_failure p (suc i) ts ≡ 0 → (j : ℕ) → j < length ts → p (get_or ts j no_slot) ≡ true
unfolding first_failure
none_fails p i [] e j h = absurd (not-suc-le-zero h)
none_fails p i (t ∷ ts) e zero h = (passed (p t) (first_failure p (suc (suc i)) ts) i e).0
none_fails p i (t ∷ ts) e (suc j) h =
    none_fails p (suc i) ts (passed (p t) (first_failure p (suc (suc i)) ts) i e).1 j (le_of_suc-le-suc h)

-- every slot passes: no failure
pub all_pass : (p : Slot → Bool) (i : ℕ) (ts : List Slot) → ((j : ℕ) → j < length ts → p (get_or ts j no_slot) ≡ true) → first_failure p i ts ≡ 0
unfolding first_failure
all_pass p i [] each = refl
all_pass p i (t ∷ ts) each = rw (each 0 (omega arith)) (all_pass p (suc i) ts (λ j h. each (suc j) (omega arith)))

-- ---- the numbers of all records

mapped_at {ℓ ℓ'} : {A : Type ℓ} {B : Type ℓ'} (f : A → B) (l : List A) (i : ℕ) (a : A) (b : B) → i < length l → get_or (map f l) i b ≡ f (get_or l i a)
mapped_at f [] i a b h = absurd (not-suc-le-zero h)
mapped_at f (x ∷ l) zero a b h = refl
mapped_at f (x ∷ l) (suc i) a b h = mapped_at f l i a b (le_of_suc-le-suc h)

module _ (s : List ℕ) where
  pub number_at : (i : ℕ) (t : Slot) → i < length (slots_of (layout_of s)) → slot_at (layout_of s) i ≡ t → get_or (all_numbers s) i (pos 0) ≡ number_of_record s t
  number_at i t h e = rw (← e) (mapped_at (number_of_record s) (slots_of (layout_of s)) i no_slot (pos 0) h)

  pub rates_length : length (sheet_numbers s).rates ≡ quote_count (layout_of s).profile
  rates_length = simp (length-take, length-drop, length-map) (omega (arith, slots_least (layout_of s)))

  pub rate_at_lem : (i : ℕ) (t : Slot) → i < quote_count (layout_of s).profile → slot_at (layout_of s) (rate_index (layout_of s) + i) ≡ t →
      get_or (sheet_numbers s).rates i (pos 0) ≡ number_of_record s t
  rate_at_lem i t h e = rw (get_or-take, get_or-drop) (number_at (rate_index (layout_of s) + i) t (omega (arith, slots_least (layout_of s))) e)

  pub volumes_length : length (sheet_numbers s).volumes ≡ volume_count (layout_of s).profile
  volumes_length = simp (length-take, length-drop, length-map) (omega (arith, slots_least (layout_of s)))

  pub volume_at_lem : (i : ℕ) (t : Slot) → i < volume_count (layout_of s).profile → slot_at (layout_of s) (volume_index (layout_of s) + i) ≡ t →
      get_or (sheet_numbers s).volumes i 0 ≡ nat_abs (number_of_record s t)
  volume_at_lem i t h e =
      rw (get_or-map nat_abs _ i (pos 0), get_or-take, get_or-drop)
      (ap nat_abs (number_at (volume_index (layout_of s) + i) t (omega (arith, slots_least (layout_of s))) e))
