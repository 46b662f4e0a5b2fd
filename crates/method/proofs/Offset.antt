-- Integers counted up from a lowest one, -d: the one at m is m - d. They are in order, and each integer from -d on is counted.
use mathlib.Core.Path.{◌≡◌, sym, ap, ◌∙◌}
use Prim.Native.Nat.{ℕ, suc, ◌+◌, ◌-◌, ◌≤◌, ◌<◌}
use native.Mathlib.Omega.{arith}
use lib.Dec.{ltb, leb→le, le→leb, lt→ltb}
use lib.IntN.{ℤ, pos, negsuc, ◌+ℤ◌, ◌-ℤ◌}
use lib.Signed.{◌≤ℤ◌, ◌<ℤ◌, le_z_yes, lt_z_yes, clash_ℤ}
use borrow.Author.Tests.{lt-ltb, le-ltb, ltb-true, ltb-false}
use Rattle.method.proofs.Outcome.{split}

-- d is one more than e
module _ (e : ℕ) where
  abbrev pub offset : ℕ → ℤ
  offset m = pos m -ℤ pos (suc e)

  -- ---- by the sign

  below : (m : ℕ) → m < suc e → offset m ≡ negsuc (suc e - suc m)
  below m h = rw (lt-ltb m (suc e) h)

  above : (m : ℕ) → suc e ≤ m → offset m ≡ pos (m - suc e)
  above m h = rw (le-ltb m (suc e) h)

  pub offset_is : (m : ℕ) → pos (suc e) +ℤ offset m ≡ pos m
  offset_is m = split (ltb m (suc e)) (λ q. low (ltb-true m (suc e) q)) (λ q. high (ltb-false m (suc e) q))
    where
      low : m < suc e → pos (suc e) +ℤ offset m ≡ pos m
      low h = rw (below m h, le-ltb (suc e) (suc (suc e - suc m)) (omega arith)) (ap pos (omega arith))

      high : suc e ≤ m → pos (suc e) +ℤ offset m ≡ pos m
      high h = rw (above m h) (ap pos (omega arith))

  pub offset_mono : (m k : ℕ) → m ≤ k → offset m ≤ℤ offset k
  offset_mono m k h =
      split (ltb k (suc e))
      (λ q. let low = ltb-true k (suc e) q in
      rw (below m (omega arith), below k low) (le_z_yes (le→leb (suc e - suc k) (suc e - suc m) (omega arith))))
      (λ q. let high = ltb-false k (suc e) q in
      split (ltb m (suc e))
      (λ p. rw (below m (ltb-true m (suc e) p), above k high) (le_z_yes tt))
      (λ p. let start = ltb-false m (suc e) p in
      rw (above m start, above k high) (le_z_yes (le→leb (m - suc e) (k - suc e) (omega arith)))))

  pub offset_order : (m k : ℕ) → offset m ≤ℤ offset k → m ≤ k
  offset_order m k h =
      split (ltb k m) (λ q. clash_ℤ (strict (ltb-true k m q)) h) (λ q. ltb-false k m q)
    where
      strict : k < m → offset k <ℤ offset m
      strict l =
          split (ltb m (suc e))
          (λ q. let low = ltb-true m (suc e) q in
          rw (below k (omega arith), below m low) (lt_z_yes (lt→ltb (suc e - suc m) (suc e - suc k) (omega arith))))
          (λ q. let high = ltb-false m (suc e) q in
          split (ltb k (suc e))
          (λ p. rw (below k (ltb-true k (suc e) p), above m high) (lt_z_yes tt))
          (λ p. let start = ltb-false k (suc e) p in
          rw (above k start, above m high) (lt_z_yes (lt→ltb (k - suc e) (m - suc e) (omega arith)))))

  -- ---- the place of an integer, where it lies between -b and t

  pub record Place (b t : ℕ) (z : ℤ) : Type 0 where
    pub m : ℕ
    pub least : suc e - b ≤ m
    pub greatest : m ≤ suc e + t
    pub is_offset : z ≡ offset m

  pub place_of : (b t : ℕ) → b ≤ e → (z : ℤ) → negsuc b ≤ℤ z → z ≤ℤ pos t → Place (suc b) t z
  place_of b t h (pos n) from to =
      let small = leb→le n t to.le in
      record { m = suc e + n; least = omega arith; greatest = omega arith; is_offset = sym (above (suc e + n) (omega arith) ∙ ap pos (omega arith)) }
  place_of b t h (negsuc n) from to =
      let small = leb→le n b from.le in
      record { m = e - n; least = omega arith; greatest = omega arith; is_offset = sym (below (e - n) (omega arith) ∙ ap negsuc (omega arith)) }
