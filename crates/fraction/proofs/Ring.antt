-- Identities in any commutative ring, up to an equivalence, by reflection: both sides are brought to a sum of sorted
-- monomials and compared by one Boolean test. `solve` is for identities that `omega` does not reach.
use mathlib.Core.Path.{◌≡◌, refl}
use mathlib.Core.Bool.{Bool, true, false}
use mathlib.Core.List.{List, [], ◌∷◌}
use Prim.Native.Nat.{ℕ, zero, suc, ◌+◌, ◌*◌}
use lib.Dec.{T, leb, eqb, eqb→eq}

infixl 60 ◌⊕◌
infixl 70 ◌⊗◌
pub data Expression : Type 0 where
  var : ℕ → Expression
  con : ℕ → Expression
  ⊖ : Expression → Expression
  ◌⊕◌ : Expression → Expression → Expression
  ◌⊗◌ : Expression → Expression → Expression

abbrev pub both : Bool → Bool → Bool
both true b = b
both false b = false

both_left : (a b : Bool) → T (both a b) → T a
both_left true b t = tt
both_left false b t = t

both_right : (a b : Bool) → T (both a b) → T b
both_right true b t = t
both_right false b t = absurd t

-- ---- monomials: sorted lists of variables

abbrev pub insert_at : Bool → ℕ → ℕ → List ℕ → List ℕ → List ℕ
insert_at true i j m r = i ∷ j ∷ m
insert_at false i j m r = j ∷ r

abbrev pub insert : ℕ → List ℕ → List ℕ
insert i [] = i ∷ []
insert i (j ∷ m) = let r = insert i m in insert_at (leb i j) i j m r

abbrev pub merge : List ℕ → List ℕ → List ℕ
merge [] n = n
merge (i ∷ m) n = insert i (merge m n)

abbrev pub same : List ℕ → List ℕ → Bool
same [] [] = true
same [] (j ∷ n) = false
same (i ∷ m) [] = false
same (i ∷ m) (j ∷ n) = both (eqb i j) (same m n)

abbrev pub before_at : Bool → Bool → Bool → Bool
before_at true e r = r
before_at false e r = e

abbrev pub before : List ℕ → List ℕ → Bool
before [] [] = false
before [] (j ∷ n) = true
before (i ∷ m) [] = false
before (i ∷ m) (j ∷ n) = before_at (eqb i j) (leb i j) (before m n)

same→≡ : (m n : List ℕ) → T (same m n) → m ≡ n
same→≡ [] [] t = refl
same→≡ [] (j ∷ n) t = absurd t
same→≡ (i ∷ m) [] t = absurd t
same→≡ (i ∷ m) (j ∷ n) t =
    rw (eqb→eq i j (both_left (eqb i j) (same m n) t), same→≡ m n (both_right (eqb i j) (same m n) t))

-- ---- polynomials: sorted monomials, each coefficient a difference of two naturals

pub data Polynomial : Type 0 where
  none : Polynomial
  term : ℕ → ℕ → List ℕ → Polynomial → Polynomial

abbrev pub placed : Bool → Bool → ℕ → ℕ → List ℕ → ℕ → ℕ → List ℕ → Polynomial → Polynomial → Polynomial
placed true l p m v p' m' v' r r' = term (p + p') (m + m') v' r
placed false true p m v p' m' v' r r' = term p m v (term p' m' v' r)
placed false false p m v p' m' v' r r' = term p' m' v' r'

abbrev pub place : ℕ → ℕ → List ℕ → Polynomial → Polynomial
place p m v none = term p m v none
place p m v (term p' m' v' r) = let r' = place p m v r in placed (same v v') (before v v') p m v p' m' v' r r'

abbrev pub plus : Polynomial → Polynomial → Polynomial
plus none q = q
plus (term p m v r) q = place p m v (plus r q)

abbrev pub scale : ℕ → ℕ → List ℕ → Polynomial → Polynomial
scale p m v none = none
scale p m v (term p' m' v' r) = place (p * p' + m * m') (p * m' + m * p') (merge v v') (scale p m v r)

abbrev pub times : Polynomial → Polynomial → Polynomial
times none q = none
times (term p m v r) q = plus (scale p m v q) (times r q)

abbrev pub normal : Expression → Polynomial
normal (var i) = term 1 0 (i ∷ []) none
normal (con n) = term n 0 [] none
normal (⊖ e) = scale 0 1 [] (normal e)
normal (e ⊕ f) = plus (normal e) (normal f)
normal (e ⊗ f) = times (normal e) (normal f)

abbrev pub vanishes : Polynomial → Bool
vanishes none = true
vanishes (term p m v r) = both (eqb p m) (vanishes r)

-- the test: the difference of the two sides has no coefficient left
abbrev pub identical : Expression → Expression → Bool
identical e f = vanishes (normal (e ⊕ ⊖ f))

-- ---- the laws of a commutative ring with literals p - m and naturals

pub record Laws (A : Type 0) (R : A → A → Type 0) (add mul : A → A → A) (neg : A → A) (nat : ℕ → A) (lit : ℕ → ℕ → A) : Type 0 where
  pub rfl : (a : A) → R a a
  pub sy : (a b : A) → R a b → R b a
  pub tr : (a b c : A) → R a b → R b c → R a c
  pub add_cong : (a b c d : A) → R a b → R c d → R (add a c) (add b d)
  pub mul_cong : (a b c d : A) → R a b → R c d → R (mul a c) (mul b d)
  pub add_comm : (a b : A) → R (add a b) (add b a)
  pub add_assoc : (a b c : A) → R (add (add a b) c) (add a (add b c))
  pub mul_comm : (a b : A) → R (mul a b) (mul b a)
  pub mul_assoc : (a b c : A) → R (mul (mul a b) c) (mul a (mul b c))
  pub mul_add : (a b c : A) → R (mul a (add b c)) (add (mul a b) (mul a c))
  pub lit_add : (p m p' m' : ℕ) → R (add (lit p m) (lit p' m')) (lit (p + p') (m + m'))
  pub lit_mul : (p m p' m' : ℕ) → R (mul (lit p m) (lit p' m')) (lit (p * p' + m * m') (p * m' + m * p'))
  pub lit_zero : (p m : ℕ) → p ≡ m → R (lit p m) (lit 0 0)
  pub add-zero : (a : A) → R (add a (lit 0 0)) a
  pub mul-zero : (a : A) → R (mul a (lit 0 0)) (lit 0 0)
  pub mul_one : (a : A) → R (mul a (lit 1 0)) a
  pub neg_is : (a : A) → R (neg a) (mul (lit 0 1) a)
  pub nat_is : (n : ℕ) → R (lit n 0) (nat n)
  pub cancel : (a b : A) → R (add a (neg b)) (lit 0 0) → R a b

abbrev pub look : {A : Type 0} → A → List A → ℕ → A
look z [] i = z
look z (x ∷ s) zero = x
look z (x ∷ s) (suc i) = look z s i

module _ (A : Type 0) (◌~◌ : A → A → Type 0) (add mul : A → A → A) (neg : A → A) (nat : ℕ → A) (lit : ℕ → ℕ → A) (L : Laws A ◌~◌ add mul neg nat lit) where
  infix 20 ◌~◌
  open L use {rfl, sy, tr, add_cong, mul_cong, add_comm, add_assoc, mul_comm, mul_assoc, mul_add}
  open L use {lit_add, lit_mul, lit_zero, add-zero, mul-zero, mul_one, neg_is, nat_is, cancel}

  abbrev pub eval : List A → Expression → A
  eval s (var i) = look (lit 0 0) s i
  eval s (con n) = nat n
  eval s (⊖ e) = neg (eval s e)
  eval s (e ⊕ f) = add (eval s e) (eval s f)
  eval s (e ⊗ f) = mul (eval s e) (eval s f)

  monomial : List A → List ℕ → A
  monomial s [] = lit 1 0
  monomial s (i ∷ m) = mul (look (lit 0 0) s i) (monomial s m)

  value : List A → Polynomial → A
  value s none = lit 0 0
  value s (term p m v r) = add (mul (lit p m) (monomial s v)) (value s r)

  mul_left_comm : (a b c : A) → mul a (mul b c) ~ mul b (mul a c)
  mul_left_comm a b c = tr _ _ _ (sy _ _ (mul_assoc a b c)) (tr _ _ _ (mul_cong _ _ _ _ (mul_comm a b) (rfl c)) (mul_assoc b a c))

  add_left_comm : (a b c : A) → add a (add b c) ~ add b (add a c)
  add_left_comm a b c = tr _ _ _ (sy _ _ (add_assoc a b c)) (tr _ _ _ (add_cong _ _ _ _ (add_comm a b) (rfl c)) (add_assoc b a c))

  add_mul : (a b c : A) → mul (add a b) c ~ add (mul a c) (mul b c)
  add_mul a b c = tr _ _ _ (mul_comm (add a b) c) (tr _ _ _ (mul_add c a b) (add_cong _ _ _ _ (mul_comm c a) (mul_comm c b)))

  one_mul : (a : A) → mul (lit 1 0) a ~ a
  one_mul a = tr _ _ _ (mul_comm (lit 1 0) a) (mul_one a)

  zero-mul : (a : A) → mul (lit 0 0) a ~ lit 0 0
  zero-mul a = tr _ _ _ (mul_comm (lit 0 0) a) (mul-zero a)

  zero-add : (a : A) → add (lit 0 0) a ~ a
  zero-add a = tr _ _ _ (add_comm (lit 0 0) a) (add-zero a)

  mul_swap : (a b c d : A) → mul (mul a b) (mul c d) ~ mul (mul a c) (mul b d)
  mul_swap a b c d =
      tr _ _ _ (mul_assoc a b (mul c d)) (tr _ _ _ (mul_cong _ _ _ _ (rfl a) (mul_left_comm b c d)) (sy _ _ (mul_assoc a c (mul b d))))

  -- ---- the normal form keeps the value

  insert_at_sound : (s : List A) (b : Bool) (i j : ℕ) (m r : List ℕ) → monomial s r ~ mul (look (lit 0 0) s i) (monomial s m) →
      monomial s (insert_at b i j m r) ~ mul (look (lit 0 0) s i) (mul (look (lit 0 0) s j) (monomial s m))
  unfolding monomial
  insert_at_sound s true i j m r h = rfl _
  insert_at_sound s false i j m r h = tr _ _ _ (mul_cong _ _ _ _ (rfl _) h) (mul_left_comm _ _ _)

  insert_sound : (s : List A) (i : ℕ) (m : List ℕ) → monomial s (insert i m) ~ mul (look (lit 0 0) s i) (monomial s m)
  unfolding monomial
  insert_sound s i [] = rfl _
  insert_sound s i (j ∷ m) = insert_at_sound s (leb i j) i j m (insert i m) (insert_sound s i m)

  merge_sound : (s : List A) (m n : List ℕ) → monomial s (merge m n) ~ mul (monomial s m) (monomial s n)
  unfolding monomial
  merge_sound s [] n = sy _ _ (one_mul _)
  merge_sound s (i ∷ m) n =
      tr _ _ _ (insert_sound s i (merge m n)) (tr _ _ _ (mul_cong _ _ _ _ (rfl _) (merge_sound s m n)) (sy _ _ (mul_assoc _ _ _)))

  placed_sound : (s : List A) (e l : Bool) (p m : ℕ) (v : List ℕ) (p' m' : ℕ) (v' : List ℕ) (r r' : Polynomial) → (T e → v ≡ v') →
      value s r' ~ add (mul (lit p m) (monomial s v)) (value s r) →
      value s (placed e l p m v p' m' v' r r') ~ add (mul (lit p m) (monomial s v)) (add (mul (lit p' m') (monomial s v')) (value s r))
  unfolding value
  placed_sound s true l p m v p' m' v' r r' q h =
      rw (q tt)
      (tr _ _ _ (add_cong _ _ _ _ (tr _ _ _ (mul_cong _ _ _ _ (sy _ _ (lit_add p m p' m')) (rfl _)) (add_mul _ _ _)) (rfl _)) (add_assoc _ _ _))
  placed_sound s false true p m v p' m' v' r r' q h = rfl _
  placed_sound s false false p m v p' m' v' r r' q h = tr _ _ _ (add_cong _ _ _ _ (rfl _) h) (add_left_comm _ _ _)

  place_sound : (s : List A) (p m : ℕ) (v : List ℕ) (q : Polynomial) → value s (place p m v q) ~ add (mul (lit p m) (monomial s v)) (value s q)
  unfolding value
  place_sound s p m v none = rfl _
  place_sound s p m v (term p' m' v' r) =
      placed_sound s (same v v') (before v v') p m v p' m' v' r (place p m v r) (same→≡ v v') (place_sound s p m v r)

  plus_sound : (s : List A) (p q : Polynomial) → value s (plus p q) ~ add (value s p) (value s q)
  unfolding value
  plus_sound s none q = sy _ _ (zero-add _)
  plus_sound s (term p m v r) q =
      tr _ _ _ (place_sound s p m v (plus r q)) (tr _ _ _ (add_cong _ _ _ _ (rfl _) (plus_sound s r q)) (sy _ _ (add_assoc _ _ _)))

  scale_sound : (s : List A) (p m : ℕ) (v : List ℕ) (q : Polynomial) → value s (scale p m v q) ~ mul (mul (lit p m) (monomial s v)) (value s q)
  unfolding value
  scale_sound s p m v none = sy _ _ (mul-zero _)
  scale_sound s p m v (term p' m' v' r) =
      tr _ _ _ (place_sound s (p * p' + m * m') (p * m' + m * p') (merge v v') (scale p m v r))
      (tr _ _ _
      (add_cong _ _ _ _ (tr _ _ _ (mul_cong _ _ _ _ (sy _ _ (lit_mul p m p' m')) (merge_sound s v v')) (mul_swap _ _ _ _)) (scale_sound s p m v r))
      (sy _ _ (mul_add _ _ _)))

  times_sound : (s : List A) (p q : Polynomial) → value s (times p q) ~ mul (value s p) (value s q)
  unfolding value
  times_sound s none q = sy _ _ (zero-mul _)
  times_sound s (term p m v r) q =
      tr _ _ _ (plus_sound s (scale p m v q) (times r q)) (tr _ _ _ (add_cong _ _ _ _ (scale_sound s p m v q) (times_sound s r q)) (sy _ _ (add_mul _ _ _)))

  normal_sound : (s : List A) (e : Expression) → value s (normal e) ~ eval s e
  unfolding value monomial
  normal_sound s (var i) = tr _ _ _ (add-zero _) (tr _ _ _ (one_mul _) (mul_one _))
  normal_sound s (con n) = tr _ _ _ (add-zero _) (tr _ _ _ (mul_one _) (nat_is n))
  normal_sound s (⊖ e) = tr _ _ _ (scale_sound s 0 1 [] (normal e)) (tr _ _ _ (mul_cong _ _ _ _ (mul_one _) (normal_sound s e)) (sy _ _ (neg_is _)))
  normal_sound s (e ⊕ f) = tr _ _ _ (plus_sound s (normal e) (normal f)) (add_cong _ _ _ _ (normal_sound s e) (normal_sound s f))
  normal_sound s (e ⊗ f) = tr _ _ _ (times_sound s (normal e) (normal f)) (mul_cong _ _ _ _ (normal_sound s e) (normal_sound s f))

  vanishes_sound : (s : List A) (p : Polynomial) → T (vanishes p) → value s p ~ lit 0 0
  unfolding value
  vanishes_sound s none t = rfl _
  vanishes_sound s (term p m v r) t =
      tr _ _ _
      (add_cong _ _ _ _
      (tr _ _ _ (mul_cong _ _ _ _ (lit_zero p m (eqb→eq p m (both_left (eqb p m) (vanishes r) t))) (rfl _)) (zero-mul _))
      (vanishes_sound s r (both_right (eqb p m) (vanishes r) t)))
      (add-zero _)

  pub solve : (s : List A) (e f : Expression) → T (identical e f) → eval s e ~ eval s f
  solve s e f t = cancel _ _ (tr _ _ _ (sy _ _ (normal_sound s (e ⊕ ⊖ f))) (vanishes_sound s (normal (e ⊕ ⊖ f)) t))
