-- A withdrawal is answered 18 at depth 0 alone; and up to three of them bring back what stood before as many posts.
use mathlib.Core.Path.{◌≡◌, refl, ap, sym, subst, ◌∙◌}
use mathlib.Core.Bool.{true}
use mathlib.Core.List.{List, [], ◌∷◌, ◌++◌, map, append_assoc}
use Prim.Native.Nat.{ℕ, zero, suc, ◌+◌, ◌-◌, ◌≤◌, ◌<◌, min}
use native.Mathlib.Omega.{arith}
use borrow.Author.Tests.{lt-ltb}
use lib.ListN.{length, drop, replicate}
use Rattle.method.specs.Grounds.{no_post_left, Outcome, refused, done}
use Rattle.method.specs.Curve.{Curves}
use Rattle.ledger.specs.Book.{Book, post_outcome, post, with_curves, booked, standing_of, withdraw}
use Rattle.ledger.specs.Calls.{Call, post_of, withdrawal}
use Rattle.ledger.specs.Count.{Count, latest, is_done, accepts_sheet, accepts_withdrawal, counted, count_from, count}
use Rattle.ledger.specs.Demands.{Withdraws, AllAccepted, ThreeDeep}
use Rattle.ledger.proofs.Asked.{refusal_kept}
use Rattle.ledger.proofs.Count.{book_of, SoundCount, accepts_post, sound, step, steps}
use Rattle.ledger.proofs.Theorem.{run_is, run_sound}

-- ---- 18 at depth 0 alone

module _ (limit told : ℕ) where
  abbrev book_at : List (List ℕ) → ℕ → Book
  book_at ss depth = book_of limit (record { told = told; posts = ss; depth = depth })

  left_at : (ss : List (List ℕ)) (depth : ℕ) → depth ≤ length ss → 0 < depth → (withdraw (book_at ss depth)).answer ≡ done tt
  unfolding withdraw
  left_at ss zero h k = absurd (omega (arith, k))
  left_at [] (suc depth) h k = absurd (omega (arith, h))
  left_at (s ∷ ss) (suc depth) h k = refl

  none_at : (ss : List (List ℕ)) (depth : ℕ) → depth ≡ 0 → (withdraw (book_at ss depth)).answer ≡ refused no_post_left
  unfolding withdraw
  none_at ss zero e = refl
  none_at ss (suc depth) e = absurd (omega (arith, e))

  only_at_0 : (ss : List (List ℕ)) (depth : ℕ) → depth ≤ length ss → (withdraw (book_at ss depth)).answer ≡ refused no_post_left → depth ≡ 0
  only_at_0 ss zero h e = refl
  only_at_0 ss (suc depth) h e = absurd (refusal_kept (left_at ss (suc depth) h (omega arith)) e)

pub withdraws : (limit : ℕ) (cs : List Call) → Withdraws limit cs
withdraws limit cs =
    let c = count cs in
    let g = run_sound cs in
    let l = min limit 2_399 in
    record {
      none_left = rw (run_is limit cs) (only_at_0 l c.told c.posts c.depth g.enough, none_at l c.told c.posts c.depth);
      some_left = rw (run_is limit cs) (left_at l c.told c.posts c.depth g.enough);
      at_most_three = g.three;
    }

-- ---- three deep

-- posts, then as many withdrawals: around one more post, one more withdrawal
abbrev there_and_back : List (List ℕ) → List Call
there_and_back ss = map post_of ss ++ replicate (length ss) withdrawal

one_more : (n : ℕ) → replicate (suc n) withdrawal ≡ replicate n withdrawal ++ (withdrawal ∷ [])
one_more zero = refl
one_more (suc n) = ap (λ (cs : List Call). withdrawal ∷ cs) (one_more n)

around : (s : List ℕ) (ss : List (List ℕ)) → there_and_back (s ∷ ss) ≡ post_of s ∷ (there_and_back ss ++ (withdrawal ∷ []))
around s ss =
    ap (λ (cs : List Call). post_of s ∷ (map post_of ss ++ cs)) (one_more (length ss))
    ∙ ap (λ (cs : List Call). post_of s ∷ cs) (sym (append_assoc (map post_of ss) (replicate (length ss) withdrawal) (withdrawal ∷ [])))

count_both : (c : Count) (cs ds : List Call) → count_from c (cs ++ ds) ≡ count_from (count_from c cs) ds
count_both c [] ds = refl
count_both c (d ∷ cs) ds = count_both (counted c d) cs ds

-- what an accepted post counts
accepted_post : (limit : ℕ) (c : Count) → SoundCount c → (s : List ℕ) (m : ℕ) → (post (book_of limit c) s).answer ≡ done m → accepts_sheet c s ≡ true
unfolding post
accepted_post limit c g s m e = accepts_post limit c g s ∙ go (post_outcome (book_of limit c) s) e
  where
    go : (o : Outcome Curves) → (booked (book_of limit c) (with_curves (book_of limit c) s) (λ k. k.plain.month) o).answer ≡ done m → is_done o ≡ true
    go (refused x) h = absurd (refusal_kept h refl)
    go (done k) h = refl

-- after k posts and as many withdrawals from c
record Undone (c : Count) (k : ℕ) (d : Count) : Type 0 where
  same_posts : d.posts ≡ c.posts
  same_told : d.told ≡ c.told
  depth_left : d.depth ≡ min c.depth (3 - k)

abbrev with_post_lem : Count → List ℕ → Count
with_post_lem c s = record { told = c.told; posts = s ∷ c.posts; depth = min (c.depth + 1) 3 }

-- the last withdrawal, of the first post
undo_first : (c d : Count) (s : List ℕ) (k : ℕ) → k < 3 → Undone (with_post_lem c s) k d → Undone c (suc k) (counted d withdrawal)
unfolding accepts_withdrawal
undo_first c d s k h u =
    let deep = lt-ltb 0 d.depth (omega (arith, u.depth_left)) in
    rw deep
    (record {
      same_posts = ap (drop 1) u.same_posts;
      same_told = u.same_told;
      depth_left = omega (arith, u.depth_left);
    })

undone : (limit : ℕ) (c : Count) → SoundCount c → (ss : List (List ℕ)) → length ss ≤ 3 → AllAccepted (book_of limit c) ss →
    Undone c (length ss) (count_from c (there_and_back ss))
undone limit c g [] h a = record { same_posts = refl; same_told = refl; depth_left = omega (arith, g.three) }
undone limit c g (s ∷ ss) h a =
    let accepted = accepted_post limit c g s a.0.0 a.0.1 in
    let next = counted c (post_of s) in
    let posted : next ≡ with_post_lem c s = rw accepted in
    let back = count_from next (there_and_back ss) in
    let rest = undone limit next (sound c g (post_of s)) ss (omega arith) (rw (step limit c g (post_of s)) at a.1) in
    rw (around s ss, count_both next (there_and_back ss) (withdrawal ∷ []))
    (undo_first c back s (length ss) (omega arith) (subst (λ (n : Count). Undone n (length ss) back) posted rest))

pub three_deep : (limit : ℕ) (cs : List Call) → ThreeDeep limit cs
three_deep limit cs ss h a =
    let l = min limit 2_399 in
    let u = undone l (count cs) (run_sound cs) ss h (rw (run_is limit cs) at a) in
    let back = steps l (count cs) (run_sound cs) (there_and_back ss) in
    rw (run_is limit cs, back)
    (record {
      same_curves = ap (λ (qs : List (List ℕ)). standing_of (latest qs)) u.same_posts;
      same_sheet = ap latest u.same_posts;
      same_told = u.same_told;
    })
