-- A level of both directions in one run down: rows are filtered along just before the columns come to them, and the columns all together, pair after
-- pair of rows. Assumes nothing.
use mathlib.Core.Path.{◌≡◌, refl, sym, ap, ◌∙◌, subst}
use mathlib.Core.List.{List}
use Prim.Native.Nat.{ℕ, ◌+◌, ◌*◌, ◌-◌, ◌%◌, ◌^◌, ◌≤◌, ◌<◌}
use native.Mathlib.Omega.{arith}
use borrow.Author.Tests.{lt-ltb, le-ltb}
use lib.Dec.{lit≤}
use lib.IntN.{ℤ, nat_abs}
use lib.ListN.{length}
use Rattle.whole.specs.Cells.{cell, Onto, OntoLine}
use Rattle.wavelet.specs.Filter.{Steps, filter}
use Rattle.wavelet.specs.Lines.{line, Line, OntoGrid, Grid, GridWithin, across_cell, level_cell}
use Rattle.wavelet.specs.Runs.{right, Liftable, lifted, Pairable, pair_cell, staged, Levelled, Midway, Onward}
use Rattle.wavelet.proofs.Related.{filter_cong}
use Rattle.wavelet.proofs.Tame.{Tame, thrice, filter_even_size}
use Rattle.whole.proofs.Filling.{onto_none, onto_turn}
use Rattle.wavelet.proofs.Running.{first_filter, pair_filter, last_filter, pair_small}

-- a run along one row, and one along some rows
abbrev RowsRun : ℕ → ℕ → ℕ → ℕ → ℕ → (ℕ × ℕ → ℤ) → List ℤ → List ℤ → Type 0
RowsRun s m t c e = Onto {I = ℕ × ℕ} (λ i. c + i.0 * t + i.1 * s) (λ i. (i.0 < e) × (i.1 < m))

one_row : (s m t c : ℕ) {h : ℕ → ℤ} {y z : List ℤ} → OntoLine c s m h y z → RowsRun s m t c 1 (λ i. h i.1) y z
one_row s m t c {h} {y} {z} o = record {
  same = o.same;
  on = λ i a. let e : i.0 ≡ 0 = omega arith in let p : c + i.0 * t + i.1 * s ≡ c + i.1 * s = rw e (omega arith) in ap (cell z) p ∙ o.on i.1 a.1;
  off = λ j never. o.off j (λ q b e. never (0, q) (omega arith, b) (omega arith));
}

module _ (S : Steps ℤ) (s m t n : ℕ) (x : List ℤ) where
  -- column q when the rows are filtered
  abbrev column : ℕ → ℕ → ℤ
  column q k = across_cell S s m t n x (k, q)

  staged_done : (a : ℕ) (i : ℕ × ℕ) → i.0 < a → staged S s m t n x a i ≡ filter S n (column i.1) i.0
  unfolding staged
  staged_done a i h = rw (lt-ltb i.0 a h)

  staged_mid : (a : ℕ) (i : ℕ × ℕ) → a ≤ i.0 → staged S s m t n x a i ≡ column i.1 i.0
  unfolding staged
  staged_mid a i h = rw (le-ltb i.0 a h)

  pub level_starts : Levelled S s m t n x 0 0 x
  level_starts = record { some = omega arith; most = omega arith; onto = onto_none (λ i a. absurd (omega arith)) }

  pub level_ends : {y : List ℤ} → Levelled S s m t n x n n y → OntoGrid s m t n (level_cell S s m t n x) x y
  level_ends L = record { same = L.onto.same; on = λ i a. L.onto.on i a ∙ staged_done n i a.0; off = L.onto.off }

module _ {S : Steps ℤ} (T : Tame S) {s m t n : ℕ} {x : List ℤ} (G : Grid s m t n (length x)) (W : GridWithin s m t n (2 ^ 58) x) where
  column_most : (q k : ℕ) → q < m → k < n → nat_abs (column S s m t n x q k) ≤ 2 ^ 60
  column_most q k hq hk = omega (arith, thrice T m G.two_across (line (k * t) s x) (λ i h. W.most k i hk h) q hq)

  module _ {a b : ℕ} {y : List ℤ} (L : Levelled S s m t n x a b y) where
    -- a run over e rows from row k on: the others stay as they were
    rows_next : (a' b' k e c : ℕ) {h : ℕ × ℕ → ℤ} {z : List ℤ} → c ≡ k * t → a' ≤ b' → b ≤ b' → b' ≤ n → k + e ≤ b'
        → ((i : ℕ × ℕ) → i.0 < k → (i.0 < b) × (staged S s m t n x a i ≡ staged S s m t n x a' i))
        → ((i : ℕ × ℕ) → k + e ≤ i.0 → i.0 < b' → (i.0 < b) × (staged S s m t n x a i ≡ staged S s m t n x a' i))
        → ((i : ℕ × ℕ) → i.0 < e → i.1 < m → h i ≡ staged S s m t n x a' (k + i.0, i.1))
        → RowsRun s m t c e h y z → Levelled S s m t n x a' b' z
    rows_next a' b' k e c {h} at_k some up most inside low high value o = record {
      some = some;
      most = most;
      onto = onto_turn {turn = λ (i : ℕ × ℕ). i.0} {f = k} {n = e}
          (record {
            apart = λ i r u w p. (G.apart i.0 i.1 r.0 r.1 (omega arith) u.1 (omega arith) w.1 p).0;
            more = λ i u. (omega arith, u.1);
            spot = λ i. (k + i.0, i.1);
            one = λ i u. ((omega arith, u.1), omega arith, omega arith);
            there = λ i u. omega arith;
            value = λ i u. value i u.0 u.1;
            all = λ i u l r. ((i.0 - k, i.1), (omega arith, u.1), let p : k + (i.0 - k) ≡ i.0 = omega arith in λ q. (p q, i.1));
            low = λ i u l. let w = low i l in ((w.0, u.1), w.1);
            high = λ i u l. let w = high i l u.0 in ((w.0, u.1), w.1);
          })
          L.onto o;
    }

    -- what stands in a row
    done_is : (k q : ℕ) → k < a → q < m → line (k * t) s y q ≡ filter S n (column S s m t n x q) k
    done_is k q h hq = L.onto.on (k, q) (omega (arith, L.some), hq) ∙ staged_done S s m t n x a (k, q) h

    mid_is : (k q : ℕ) → a ≤ k → k < b → q < m → line (k * t) s y q ≡ column S s m t n x q k
    mid_is k q l h hq = L.onto.on (k, q) (h, hq) ∙ staged_mid S s m t n x a (k, q) l

    -- ---- the next row, filtered along

    module _ (below : b < n) where
      row_left : (q : ℕ) → q < m → line (b * t) s y q ≡ line (b * t) s x q
      row_left q h = L.onto.off (b * t + q * s) (λ i u e. absurd (omega (arith, (G.apart b q i.0 i.1 below h (omega arith) u.1 e).0)))

      module _ (c : ℕ) (at_b : c ≡ b * t) where
        pub row_ready : Line c s m (2 ^ 60) y
        row_ready = record {
          two = G.two_across;
          stride_up = G.s_up;
          inside = λ q h. rw (at_b, L.onto.same) (G.inside b q below h);
          most = λ q h. rw (at_b, row_left q h) (omega (arith, W.most b q below h));
        }

        pub row_next : {z : List ℤ} → OntoLine c s m (filter S m (line c s y)) y z → Levelled S s m t n x a (b + 1) z
        row_next o =
            rows_next a (b + 1) b 1 c at_b (omega (arith, L.some)) (omega arith) (omega arith) (omega arith) (λ i l. (l, refl)) (λ i l h. absurd (omega arith))
            (λ i u v.
            let e : b + i.0 ≡ b = omega arith in
            filter_cong S m G.two_across (line c s y) (line (b * t) s x) (λ q h. ap (λ (k : ℕ). cell y (k + q * s)) at_b ∙ row_left q h) i.1 v
            ∙ sym (staged_mid S s m t n x a (b, i.1) L.some)
            ∙ ap (λ (r : ℕ). staged S s m t n x a (r, i.1)) (sym e))
            (one_row s m t c o)

    -- ---- the columns go on, over e rows

    columns_next : (e c : ℕ) {h : ℕ × ℕ → ℤ} {z : List ℤ} → c ≡ a * t → a + e ≤ b
        → ((i : ℕ × ℕ) → i.0 < e → i.1 < m → h i ≡ filter S n (column S s m t n x i.1) (a + i.0)) → RowsRun s m t c e h y z → Levelled S s m t n x (a + e) b z
    columns_next e c at_a inside value =
        rows_next (a + e) b a e c at_a inside (omega arith) L.most inside
        (λ i l. (omega arith, staged_done S s m t n x a i l ∙ sym (staged_done S s m t n x (a + e) i (omega arith))))
        (λ i l h. (h, staged_mid S s m t n x a i (omega arith) ∙ sym (staged_mid S s m t n x (a + e) i l)))
        (λ i u v. value i u v ∙ sym (staged_done S s m t n x (a + e) (a + i.0, i.1) (omega arith)))

    -- row 0, whose one neighbour is row 1
    module _ (start : a ≡ 0) (two : 2 ≤ b) where
      top_is : (q : ℕ) → q < m → line 0 s y q ≡ column S s m t n x q 0
      top_is q h = ap (cell y) (omega arith) ∙ mid_is 0 q (omega arith) (omega arith) h

      second_is : (q : ℕ) → q < m → line t s y q ≡ column S s m t n x q 1
      second_is q h =
          let e : t + q * s ≡ 1 * t + q * s = omega arith in
          ap (cell y) e ∙ mid_is 1 q (omega arith) (omega arith) h

      pub first_ready : Liftable s m 0 t t y
      first_ready = record {
        step_up = G.s_up;
        inside = λ q h.
            let e : t + q * s < length y = omega (arith, L.onto.same, G.inside 1 q G.two_down h) in
            (omega (arith, L.onto.same, G.inside 0 q (omega (arith, G.two_down)) h), e, e);
        apart = λ i j hi hj. (clash i j hi hj, clash i j hi hj);
        small = λ q h.
            rw (top_is q h, second_is q h)
            (record {
              small_x = omega (arith, column_most q 0 h (omega (arith, G.two_down)));
              small_l = omega (arith, column_most q 1 h G.two_down);
              small_r = omega (arith, column_most q 1 h G.two_down);
            });
      }
        where
          clash : (i j : ℕ) → i < m → j < m → t + i * s ≡ 0 + j * s → ⊥
          clash i j hi hj e = absurd (omega (arith, (G.apart 1 i 0 j G.two_down hi (omega (arith, G.two_down)) hj (omega arith)).0))

      pub first_next : {z : List ℤ} → OntoLine 0 s m (lifted S 0 s 0 t t y) y z → Levelled S s m t n x 1 b z
      first_next o =
          rw (← ap (λ (k : ℕ). k + 1) start)
          (columns_next 1 0 (rw start (omega arith)) (omega arith)
          (λ i u v.
          let e : a + i.0 ≡ 0 = omega arith in
          rw (e, top_is i.1 v, second_is i.1 v) (first_filter S n G.two_down (column S s m t n x i.1)))
          (one_row s m t 0 o))

    -- an odd row a, with the row above it done
    module _ (odd : a % 2 ≡ 1) where
      above_at : a * t - t ≡ (a - 1) * t
      above_at =
          let e : a ≡ a - 1 + 1 = omega arith in
          ap (λ (k : ℕ). k * t - t) e ∙ omega arith

      pub above_row : t ≤ a * t
      above_row =
          let e : a ≡ a - 1 + 1 = omega arith in
          let l : t ≤ (a - 1 + 1) * t = omega arith in
          rw e l

      above_is : (q : ℕ) → q < m → line (a * t - t) s y q ≡ filter S n (column S s m t n x q) (a - 1)
      above_is q h = ap (λ (k : ℕ). cell y (k + q * s)) above_at ∙ done_is (a - 1) q (omega arith) h

      above_apart : (k : ℕ) → a ≤ k → k < n → (i j : ℕ) → i < m → j < m → a * t - t + i * s ≡ k * t + j * s → ⊥
      above_apart k l h i j hi hj e = absurd (omega (arith, (G.apart (a - 1) i k j (omega arith) hi h hj (ap (λ (r : ℕ). r + i * s) (sym above_at) ∙ e)).0))

      -- with the row behind it, whose other neighbour begins at r
      module _ (r : ℕ) (at_r : r ≡ right n (a + 1) * t) (near : a + 1 < b) (next : right n (a + 1) < b) where
        inside : a + 1 < n
        inside = omega (arith, L.most)

        low_at : (q : ℕ) → a * t + t + q * s ≡ (a + 1) * t + q * s
        low_at q = omega arith

        low_is : (q : ℕ) → q < m → line (a * t + t) s y q ≡ column S s m t n x q (a + 1)
        low_is q h = ap (cell y) (low_at q) ∙ mid_is (a + 1) q (omega arith) near h

        next_is : (q : ℕ) → q < m → line r s y q ≡ column S s m t n x q (right n (a + 1))
        next_is q h = ap (λ (k : ℕ). cell y (k + q * s)) at_r ∙ mid_is (right n (a + 1)) q (omega arith) next h

        row_at : (c q : ℕ) → a * t + c * t + q * s ≡ (a + c) * t + q * s
        row_at c q = omega arith

        pub pairs_ready : Pairable s m t (a * t) r y
        pairs_ready = record {
          s_up = G.s_up;
          t_up = G.t_up;
          above = above_row;
          inside = λ q h. (
            rw (low_at q, L.onto.same) (G.inside (a + 1) q inside h),
            rw (at_r, L.onto.same) (G.inside (right n (a + 1)) q (omega (arith, L.most)) h),
          );
          apart = λ i j c d hi hj hc hd e. (G.apart (a + c) i (a + d) j (omega (arith, inside)) hi (omega (arith, inside)) hj (sym (row_at c i) ∙ e ∙ row_at d j)).1;
          done_apart = λ i j c hi hj hc e. above_apart (a + c) (omega arith) (omega (arith, inside)) i j hi hj (e ∙ row_at c j);
          next_apart = λ i j c hi hj hc e.
              (G.apart (right n (a + 1)) i (a + c) j (omega (arith, L.most)) hi (omega (arith, inside)) hj (ap (λ (k : ℕ). k + i * s) (sym at_r) ∙ e ∙ row_at c j)).1;
          small = λ q h.
              rw (above_is q h, mid_is a q (omega arith) (omega arith) h, low_is q h, next_is q h)
              (pair_small T n G.two_down (column S s m t n x q) (λ k l. column_most q k h l) a inside odd);
        }

        pub pairs_next : {z : List ℤ} → RowsRun s m t (a * t) 2 (pair_cell S s t (a * t) r y) y z → Levelled S s m t n x (a + 2) b z
        pairs_next =
            columns_next 2 (a * t) refl (omega arith)
            (λ i u v.
            rw (above_is i.1 v, mid_is a i.1 (omega arith) (omega arith) v, low_is i.1 v, next_is i.1 v)
            (pair_filter T n G.two_down (column S s m t n x i.1) a inside odd i.0 u))

      -- or as the last row of an even number
      module _ (end : a + 1 ≡ n) (all : b ≡ n) where
        last_is : (q : ℕ) → q < m → line (a * t) s y q ≡ column S s m t n x q a
        last_is q h = mid_is a q (omega arith) (omega arith) h

        pub last_ready : Liftable s m (a * t) (a * t - t) (a * t - t) y
        last_ready = record {
          step_up = G.s_up;
          inside = λ q h.
              let e : a * t + q * s < length y = rw L.onto.same (G.inside a q (omega arith) h) in
              (e, omega (arith, e), omega (arith, e));
          apart = λ i j hi hj. (above_apart a (omega arith) (omega arith) i j hi hj, above_apart a (omega arith) (omega arith) i j hi hj);
          small = λ q h.
              let most : nat_abs (filter S n (column S s m t n x q) (a - 1)) ≤ 2 ^ 61 = filter_even_size T n G.two_down (column S s m t n x q) (λ k l. column_most q k h l) (lit≤ tt) (a - 1) (omega arith) (omega arith) in
              rw (last_is q h, above_is q h) (record { small_x = omega (arith, column_most q a h (omega arith)); small_l = most; small_r = most });
        }

        pub last_next : {z : List ℤ} → OntoLine (a * t) s m (lifted S 1 s (a * t) (a * t - t) (a * t - t) y) y z → Levelled S s m t n x n n z
        last_next {z} o = subst (λ (k : ℕ). Levelled S s m t n x k n z) end (subst (λ (k : ℕ). Levelled S s m t n x (a + 1) k z) all whole)
          where
            whole : Levelled S s m t n x (a + 1) b z
            whole =
                columns_next 1 (a * t) refl (omega arith)
                (λ i u v.
                let e : a + i.0 ≡ a = omega arith in
                rw (e, last_is i.1 v, above_is i.1 v) (last_filter T n G.two_down (column S s m t n x i.1) a end odd))
                (one_row s m t (a * t) o)

  -- ---- the steps of the run, each from the one before

  -- rows 0 and 1, and then the columns at row 0
  pub top_ready : Line 0 s m (2 ^ 60) x
  top_ready = row_ready (level_starts S s m t n x) (omega (arith, G.two_down)) 0 (omega arith)

  module _ {y : List ℤ} (o : OntoLine 0 s m (filter S m (line 0 s x)) x y) where
    top_next : Levelled S s m t n x 0 1 y
    top_next = row_next (level_starts S s m t n x) (omega (arith, G.two_down)) 0 (omega arith) o

    pub second_ready : Line t s m (2 ^ 60) y
    second_ready = row_ready top_next G.two_down t (omega arith)

    module _ {z : List ℤ} (p : OntoLine t s m (filter S m (line t s y)) y z) where
      second_next : Levelled S s m t n x 0 2 z
      second_next = row_next top_next G.two_down t (omega arith) p

      pub start_ready : Liftable s m 0 t t z
      start_ready = first_ready second_next refl (omega arith)

      pub start_next : {u : List ℤ} → OntoLine 0 s m (lifted S 0 s 0 t t z) z u → Levelled S s m t n x 1 2 u
      start_next = first_next second_next refl (omega arith)

  -- the rows behind the odd row j, and then the columns at j and j + 1
  module _ (j : ℕ) (odd : j % 2 ≡ 1) {y : List ℤ} (L : Levelled S s m t n x j (j + 1) y) where
    pub even_ready : j + 1 < n → Line (j * t + t) s m (2 ^ 60) y
    even_ready h = row_ready L h (j * t + t) (omega arith)

    module _ {z : List ℤ} (o : OntoLine (j * t + t) s m (filter S m (line (j * t + t) s y)) y z) where
      even_next : j + 1 < n → Levelled S s m t n x j (j + 1 + 1) z
      even_next h = row_next L h (j * t + t) (omega arith) o

      module _ (more : j + 2 < n) where
        pub behind_ready : Line (j * t + 2 * t) s m (2 ^ 60) z
        behind_ready = row_ready (even_next (omega arith)) (omega arith) (j * t + 2 * t) (omega arith)

        module _ {u : List ℤ} (p : OntoLine (j * t + 2 * t) s m (filter S m (line (j * t + 2 * t) s z)) z u) where
          behind_next : Levelled S s m t n x j (j + 3) u
          behind_next =
              let e : j + 1 + 1 + 1 ≡ j + 3 = omega arith in
              subst (λ (b : ℕ). Levelled S s m t n x j b u) e (row_next (even_next (omega arith)) (omega arith) (j * t + 2 * t) (omega arith) p)

          right_at : j * t + 2 * t ≡ right n (j + 1) * t
          right_at =
              let e : right n (j + 1) ≡ j + 2 = omega arith in
              rw e (omega arith)

          pub turn_ready : Pairable s m t (j * t) (j * t + 2 * t) u
          turn_ready = pairs_ready behind_next odd (j * t + 2 * t) right_at (omega arith) (omega arith)

          pub turn_next : {v : List ℤ} → RowsRun s m t (j * t) 2 (pair_cell S s t (j * t) (j * t + 2 * t) u) u v → Levelled S s m t n x (j + 2) (j + 3) v
          turn_next = pairs_next behind_next odd (j * t + 2 * t) right_at (omega arith) (omega arith)

      -- where n is odd, row j + 1 is the last
      module _ (end : j + 2 ≡ n) where
        mirrored_at : j * t ≡ right n (j + 1) * t
        mirrored_at =
            let e : right n (j + 1) ≡ j = omega arith in
            rw e

        pub close_ready : Pairable s m t (j * t) (j * t) z
        close_ready = pairs_ready (even_next (omega arith)) odd (j * t) mirrored_at (omega arith) (omega arith)

        pub close_next : {v : List ℤ} → RowsRun s m t (j * t) 2 (pair_cell S s t (j * t) (j * t) z) z v → Levelled S s m t n x n n v
        close_next {v} r =
            let e : j + 1 + 1 ≡ n = omega arith in
            subst (λ (a : ℕ). Levelled S s m t n x a n v) end
            (subst (λ (b : ℕ). Levelled S s m t n x (j + 2) b v) e (pairs_next (even_next (omega arith)) odd (j * t) mirrored_at (omega arith) (omega arith) r))

-- ---- the loop over j

module _ {S : Steps ℤ} {s m t n : ℕ} where
  pub onward_starts : {y : List ℤ} → Onward S s m t n 1 1 2 y y
  onward_starts = record { goes = λ G W L. L }

  pub onward_next : (j : ℕ) {x y z : List ℤ} → Onward S s m t n 1 j (j + 1) x y → Onward S s m t n j (j + 2) (j + 3) y z → Onward S s m t n 1 (j + 2) (j + 2 + 1) x z
  onward_next j {z = z} p q =
      record { goes = λ {l} G W L. let e : j + 3 ≡ j + 2 + 1 = omega arith in subst (λ (b : ℕ). Levelled S s m t n l (j + 2) b z) e (q.goes G W (p.goes G W L)) }

  module _ {l y z : List ℤ} (G : Grid s m t n (length l)) (W : GridWithin s m t n (2 ^ 58) l) (L : Levelled S s m t n l 1 2 y) where
    pub midway : (j : ℕ) → j % 2 ≡ 1 → Onward S s m t n 1 j (j + 1) y z → Midway S s m t n j z
    midway j odd p = record { l = l; grid = G; within = W; odd = odd; run = p.goes G W L }
