-- What reading a sheet comes to, test by test.
use mathlib.Core.Path.{◌≡◌}
use mathlib.Core.Bool.{true, false}
use mathlib.Core.List.{List}
use Prim.Native.Nat.{ℕ, ◌<◌}
use lib.Dec.{eqb, ltb}
use lib.ListN.{length}
use borrow.Author.Tests.{eq-eqb, ne_eqb, eqb-true, ltb-true}
use Rattle.method.specs.Grounds.{unknown_profile, wrong_length, wrong_record, out_of_range, no_volume, refused, done}
use Rattle.method.specs.Sheet.{profile_known, layout_of, size_of, slots_of, right_record, in_range, first_failure, total, Numbers, sheet_numbers, read_sheet}
use Rattle.method.proofs.Outcome.{demand_done}

abbrev pub first_wrong : List ℕ → ℕ
first_wrong s = first_failure (right_record s) 1 (slots_of (layout_of s))

abbrev pub first_outside : List ℕ → ℕ
first_outside s = first_failure (in_range s) 1 (slots_of (layout_of s))

module _ (s : List ℕ) where
  pub read_unknown_profile : profile_known s ≡ false → read_sheet s ≡ refused unknown_profile
  unfolding read_sheet
  read_unknown_profile p = rw p

  module _ (known : profile_known s ≡ true) where
    pub read_wrong_length : (length s ≡ size_of (layout_of s) → ⊥) → read_sheet s ≡ refused wrong_length
    unfolding read_sheet
    read_wrong_length n = rw (known, ne_eqb (length s) (size_of (layout_of s)) n)

    module _ (long : length s ≡ size_of (layout_of s)) where
      pub read_wrong_record : (first_wrong s ≡ 0 → ⊥) → read_sheet s ≡ refused (wrong_record (first_wrong s))
      unfolding read_sheet
      read_wrong_record n = rw (known, eq-eqb (length s) (size_of (layout_of s)) long, ne_eqb (first_wrong s) 0 n)

      module _ (right : first_wrong s ≡ 0) where
        pub read_out_of_range : (first_outside s ≡ 0 → ⊥) → read_sheet s ≡ refused (out_of_range (first_outside s))
        unfolding read_sheet
        read_out_of_range n = rw (known, eq-eqb (length s) (size_of (layout_of s)) long, eq-eqb (first_wrong s) 0 right, ne_eqb (first_outside s) 0 n)

        module _ (inside : first_outside s ≡ 0) where
          pub read_no_volume : ltb 0 (total (sheet_numbers s).volumes) ≡ false → read_sheet s ≡ refused no_volume
          unfolding read_sheet
          read_no_volume v =
              rw (known, eq-eqb (length s) (size_of (layout_of s)) long, eq-eqb (first_wrong s) 0 right, eq-eqb (first_outside s) 0 inside, v)

          pub read_numbers : ltb 0 (total (sheet_numbers s).volumes) ≡ true → read_sheet s ≡ done (sheet_numbers s)
          unfolding read_sheet
          read_numbers v =
              rw (known, eq-eqb (length s) (size_of (layout_of s)) long, eq-eqb (first_wrong s) 0 right, eq-eqb (first_outside s) 0 inside, v)

-- ---- a sheet that is read passes each test

pub record Passes (s : List ℕ) (n : Numbers) : Type 0 where
  pub known : profile_known s ≡ true
  pub long : length s ≡ size_of (layout_of s)
  pub right : first_wrong s ≡ 0
  pub inside : first_outside s ≡ 0
  pub numbers : sheet_numbers s ≡ n
  pub traded : 0 < total (sheet_numbers s).volumes

pub read_passes : (s : List ℕ) (n : Numbers) → read_sheet s ≡ done n → Passes s n
unfolding read_sheet
read_passes s n e =
    let p = demand_done (profile_known s) unknown_profile _ e in
    let a = demand_done (eqb (length s) (size_of (layout_of s))) wrong_length _ p.1 in
    let b = demand_done (eqb (first_wrong s) 0) (wrong_record (first_wrong s)) _ a.1 in
    let c = demand_done (eqb (first_outside s) 0) (out_of_range (first_outside s)) _ b.1 in
    let d = demand_done (ltb 0 (total (sheet_numbers s).volumes)) no_volume _ c.1 in
    record {
      known = p.0;
      long = eqb-true _ _ a.0;
      right = eqb-true _ _ b.0;
      inside = eqb-true _ _ c.0;
      numbers = cc d.1;
      traded = ltb-true _ _ d.0;
    }
