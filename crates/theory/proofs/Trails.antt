-- The steps of a path-based search for components.
use Prim.Native.Nat.{ℕ, suc, ◌-◌, ◌<◌, ◌≤◌}
use mathlib.Core.Path.{◌≡◌, sym, ap, ◌∙◌, subst, subst₂}
use mathlib.Core.Bool.{Bool, true, false}
use mathlib.Core.Logic.{◌⊎◌, ◌≢◌, inl, inr}
use native.Mathlib.Decide.{ℕ_discrete, dec_lt}
use native.Mathlib.Omega.{arith}
use Rattle.theory.specs.Reach.{Reach, here, step}
use Rattle.theory.specs.Assignments.{put, with}
use Rattle.theory.proofs.Sums.{cases, clash}
use Rattle.theory.proofs.Walks.{reach_trans}
use Rattle.theory.proofs.Moves.{put_same, put_other, with_same, with_other, with_has, with_is}
use Rattle.theory.specs.Trail.{Trail, Uncut, Spent, Ends, LooseBy, Loosened}

module _ (R : ℕ → ℕ → Type 0) (m : ℕ) where
  module _ (past : ℕ → ℕ → Type 0) (seen done : ℕ → Bool) (comp : ℕ → ℕ) (next : ℕ) (pos node : ℕ → ℕ) (top : ℕ) (cut : ℕ → Bool) (path : ℕ → ℕ) (depth : ℕ)
      (t : Trail R past m seen done comp next pos node top cut path depth) where
    -- the last of the path stands in the topmost segment
    pub last_uncut : (d x : ℕ) → suc d ≡ depth → Uncut cut (path d) x
    last_uncut d x e z a b = elim (cases (cut z)) [
      | inr n ↦ n
      | inl y ↦ let (k, lk, q) = t.cut_on z y in absurd (later k lk q)
    ]
      where
        later : (k : ℕ) → k < depth → path k ≡ z → ⊥
        later k lk q = elim (ℕ_discrete k d) [
          | yes w ↦ omega (arith, ap path w)
          | no ne ↦ omega (arith, t.path_rises k d (omega arith) (omega arith))
        ]

    -- each number on the stack reaches the last of the path
    pub to_last : (d x : ℕ) → suc d ≡ depth → x < top → Reach R (node x) (node (path d))
    to_last d x e l = elim (dec_lt (path d) x) [
      | yes b ↦ t.down (path d) x (omega arith) l (last_uncut d x e)
      | no nb ↦ t.up x (path d) (omega arith) (t.path_below d (omega arith))
    ]

    -- an empty path has an empty stack
    pub none_on : depth ≡ 0 → top ≡ 0
    none_on e = elim (dec_lt 0 top) [
      | yes l ↦ let (d, k, q) = t.cut_on 0 (t.first l) in absurd (omega arith)
      | no nl ↦ omega arith
    ]

    -- one more step was followed
    pub trail_follows : (past' : ℕ → ℕ → Type 0) (xa b : ℕ) → ((x y : ℕ) → past x y → past' x y) → ((x y : ℕ) → past' x y → past x y ⊎ ((x ≡ node xa) × (y ≡ b)))
        → xa < top → Ends done node top cut xa b → Trail R past' m seen done comp next pos node top cut path depth
    trail_follows past' xa b more only lx ends = record {
      on_job = t.on_job;
      on_open = t.on_open;
      on_seen = t.on_seen;
      on_pos = t.on_pos;
      done_seen = t.done_seen;
      seen_is = t.seen_is;
      fresh = λ a c l e p. elim (only a c p) [
        | inl o ↦ t.fresh a c l e o
        | inr (q, r) ↦ clash (ap seen q ∙ t.on_seen xa lx) e
      ];
      up = t.up;
      down = t.down;
      closed = t.closed;
      linked = t.linked;
      numbered = t.numbered;
      past_on = λ x c l lc p. elim (only (node x) c p) [
        | inl o ↦ t.past_on x c l lc o
        | inr (q, r) ↦
            let e : xa ≡ x = sym (t.on_pos xa lx) ∙ (sym (ap pos q) ∙ t.on_pos x l) in
            subst₂ (λ (y z : ℕ). Ends done node top cut y z) e (sym r) ends
      ];
      path_below = t.path_below;
      path_rises = t.path_rises;
      cut_on = t.cut_on;
      rest = λ x l. elim (t.rest x l) [ inl s ↦ inl (λ c r. more (node x) c (s c r)) | inr o ↦ inr o ];
      first = t.first;
    }

    -- a step to a number on the stack joins the segments above it
    pub trail_joins : (cut' : ℕ → Bool) (d xb : ℕ) → suc d ≡ depth → xb < top → R (node (path d)) (node xb)
        → ((z : ℕ) → z ≤ xb → cut' z ≡ cut z) → ((z : ℕ) → xb < z → cut' z ≡ false) → Trail R past m seen done comp next pos node top cut' path depth
    trail_joins cut' d xb e lb r low high = record {
      on_job = t.on_job;
      on_open = t.on_open;
      on_seen = t.on_seen;
      on_pos = t.on_pos;
      done_seen = t.done_seen;
      seen_is = t.seen_is;
      fresh = t.fresh;
      up = t.up;
      down = λ x y l ly u. elim (dec_lt xb y) [
        | yes b ↦ reach_trans R (node y) (node (path d)) (node x) (to_last d y e ly) (step r (elim (dec_lt x xb) [
          | yes c ↦ t.down x xb (omega arith) lb (λ z p q. sym (low z q) ∙ u z p (omega arith))
          | no nc ↦ t.up xb x (omega arith) (omega arith)
        ]))
        | no nb ↦ t.down x y l ly (λ z p q. sym (low z (omega arith)) ∙ u z p q)
      ];
      closed = t.closed;
      linked = t.linked;
      numbered = t.numbered;
      past_on = λ x c l lc p. elim (t.past_on x c l lc p) [
        | inl o ↦ inl o
        | inr (y, ly, q, u) ↦ inr (y, ly, q, λ z a b. fewer z (u z a b))
      ];
      path_below = t.path_below;
      path_rises = t.path_rises;
      cut_on = λ z y. t.cut_on z (elim (cases (cut z)) [ inl a ↦ a | inr n ↦ absurd (clash y (fewer z n)) ]);
      rest = t.rest;
      first = λ l. low 0 (omega arith) ∙ t.first l;
    }
      where
        fewer : (z : ℕ) → cut z ≡ false → cut' z ≡ false
        fewer z n = elim (dec_lt xb z) [ yes a ↦ high z a | no na ↦ low z (omega arith) ∙ n ]

    -- the last of the path has no step left, and is not the first of its segment
    pub trail_pops : (d : ℕ) → suc d ≡ depth → Spent R past (node (path d)) → cut (path d) ≡ false → Trail R past m seen done comp next pos node top cut path d
    trail_pops d e s n = record {
      on_job = t.on_job;
      on_open = t.on_open;
      on_seen = t.on_seen;
      on_pos = t.on_pos;
      done_seen = t.done_seen;
      seen_is = t.seen_is;
      fresh = t.fresh;
      up = t.up;
      down = t.down;
      closed = t.closed;
      linked = t.linked;
      numbered = t.numbered;
      past_on = t.past_on;
      path_below = λ k l. t.path_below k (omega arith);
      path_rises = λ k j l h. t.path_rises k j l (omega arith);
      cut_on = λ z y. let (k, l, q) = t.cut_on z y in (k, below k l (λ w. clash (subst (λ (v : ℕ). cut v ≡ true) (sym q ∙ ap path w) y) n), q);
      rest = λ x l. elim (t.rest x l) [
        | inl o ↦ inl o
        | inr (k, lk, q) ↦ elim (ℕ_discrete k d) [
          | yes w ↦ inl (subst (λ (v : ℕ). Spent R past (node v)) (sym (ap path w) ∙ q) s)
          | no ne ↦ inr (k, below k lk ne, q)
        ]
      ];
      first = t.first;
    }
      where
        below : (k : ℕ) → k < depth → k ≢ d → k < d
        below k l ne = omega arith

    -- a new number comes on the stack, as a segment of its own
    pub trail_pushes : (w : ℕ) → w < m → seen w ≡ false → ((d : ℕ) → suc d ≡ depth → R (node (path d)) w)
        → Trail R past m (with seen w) done comp next (put pos w top) (put node top w) (suc top) (with cut top) (put path depth top) (suc depth)
    trail_pushes w lw sw r = record {
      on_job = λ x l. at_or x l (λ v. v < m) lw (λ b. t.on_job x b);
      on_open = λ x l. at_or x l (λ v. done v ≡ false) (elim (cases (done w)) [ inr n ↦ n | inl y ↦ absurd (clash (t.done_seen w lw y) sw) ]) (λ b. t.on_open x b);
      on_seen = λ x l. at_or x l (λ v. with seen w v ≡ true) (with_same seen w) (λ b. with_has seen w (node x) (t.on_seen x b));
      on_pos = λ x l. elim (ℕ_discrete x top) [
        | yes e ↦ ap (put pos w top) (ap (put node top w) e ∙ put_same node top w) ∙ (put_same pos w top ∙ sym e)
        | no ne ↦
            let b : x < top = omega arith in
            ap (put pos w top) (put_other node top w x ne) ∙ (put_other pos w top (node x) (λ q. clash (t.on_seen x b) (ap seen q ∙ sw)) ∙ t.on_pos x b)
      ];
      done_seen = λ a l e. with_has seen w a (t.done_seen a l e);
      seen_is = λ a l e. elim (with_is seen w a e) [
        | inl q ↦ inr (top, omega arith, put_same node top w ∙ sym q)
        | inr o ↦ elim (t.seen_is a l o) [ inl y ↦ inl y | inr (x, lx, q) ↦ inr (x, omega arith, put_other node top w x (λ z. omega arith) ∙ q) ]
      ];
      fresh = λ a b l e p. t.fresh a b l (elim (cases (seen a)) [ inr n ↦ n | inl y ↦ absurd (clash (with_has seen w a y) e) ]) p;
      up = λ x y l ly. elim (ℕ_discrete y top) [
        | yes e ↦ subst (λ (v : ℕ). Reach R (put node top w x) v) (sym (ap (put node top w) e ∙ put_same node top w)) (elim (ℕ_discrete x top) [
          | yes q ↦ subst (λ (v : ℕ). Reach R v w) (sym (ap (put node top w) q ∙ put_same node top w)) here
          | no ne ↦ subst (λ (v : ℕ). Reach R v w) (sym (put_other node top w x ne)) (to_new x (omega arith))
        ])
        | no ne ↦ subst₂ (λ (u v : ℕ). Reach R u v) (sym (put_other node top w x (λ z. omega arith))) (sym (put_other node top w y ne)) (t.up x y l (omega arith))
      ];
      down = λ x y l ly u. elim (ℕ_discrete y top) [
        | yes e ↦ elim (ℕ_discrete x top) [
          | yes q ↦ subst (λ (v : ℕ). Reach R (put node top w y) (put node top w v)) (e ∙ sym q) here
          | no ne ↦ absurd (clash (with_same cut top) (u top (omega arith) (omega arith)))
        ]
        | no ne ↦ subst₂ (λ (p q : ℕ). Reach R p q) (sym (put_other node top w y ne)) (sym (put_other node top w x (λ z. omega arith)))
            (t.down x y l (omega arith) (λ z a b. sym (with_other cut top z (λ q. omega arith)) ∙ u z a b))
      ];
      closed = t.closed;
      linked = t.linked;
      numbered = t.numbered;
      past_on = λ x b l lb p. elim (ℕ_discrete x top) [
        | yes e ↦ absurd (t.fresh w b lw sw (subst (λ (v : ℕ). past v b) (ap (put node top w) e ∙ put_same node top w) p))
        | no ne ↦ elim (t.past_on x b (omega arith) lb (subst (λ (v : ℕ). past v b) (put_other node top w x ne) p)) [
          | inl o ↦ inl o
          | inr (y, ly, q, u) ↦ inr (y, omega arith, put_other node top w y (λ z. omega arith) ∙ q, λ z a c. with_other cut top z (λ k. omega arith) ∙ u z a c)
        ]
      ];
      path_below = λ d l. elim (ℕ_discrete d depth) [
        | yes e ↦ omega (arith, ap (put path depth top) e, put_same path depth top)
        | no ne ↦ omega (arith, put_other path depth top d ne, t.path_below d (omega arith))
      ];
      path_rises = λ d e l k. elim (ℕ_discrete e depth) [
        | yes q ↦ omega (arith, ap (put path depth top) q, put_same path depth top, put_other path depth top d (λ z. omega arith), t.path_below d (omega arith))
        | no ne ↦ omega (arith, put_other path depth top e ne, put_other path depth top d (λ z. omega arith), t.path_rises d e l (omega arith))
      ];
      cut_on = λ z y. elim (with_is cut top z y) [
        | inl q ↦ (depth, omega arith, put_same path depth top ∙ sym q)
        | inr o ↦ let (d, l, q) = t.cut_on z o in (d, omega arith, put_other path depth top d (λ k. omega arith) ∙ q)
      ];
      rest = λ x l. elim (ℕ_discrete x top) [
        | yes e ↦ inr (depth, omega arith, put_same path depth top ∙ sym e)
        | no ne ↦ elim (t.rest x (omega arith)) [
          | inl s ↦ inl (subst (Spent R past) (sym (put_other node top w x ne)) s)
          | inr (d, k, q) ↦ inr (d, omega arith, put_other path depth top d (λ z. omega arith) ∙ q)
        ]
      ];
      first = λ l. elim (ℕ_discrete 0 top) [
        | yes e ↦ subst (λ (z : ℕ). with cut z 0 ≡ true) e (with_same cut 0)
        | no ne ↦ with_has cut top 0 (t.first (omega arith))
      ];
    }
      where
        at_or : (x : ℕ) → x < suc top → (P : ℕ → Type 0) → P w → (x < top → P (node x)) → P (put node top w x)
        at_or x l P h f = elim (ℕ_discrete x top) [
          | yes e ↦ subst P (sym (ap (put node top w) e ∙ put_same node top w)) h
          | no ne ↦ subst P (sym (put_other node top w x ne)) (f (omega arith))
        ]

        to_new : (x : ℕ) → x < top → Reach R (node x) w
        to_new x l = elim (dec_lt 0 depth) [
          | yes p ↦ reach_trans R (node x) (node (path (depth - 1))) w (to_last (depth - 1) x (omega arith) l) (step (r (depth - 1) (omega arith)) here)
          | no np ↦ absurd (omega (arith, none_on (omega arith)))
        ]

    -- the numbers of the topmost segment reach each other
    pub together : (d x y : ℕ) → suc d ≡ depth → path d ≤ x → x < top → path d ≤ y → y < top → Reach R (node x) (node y)
    together d x y e k l j i = elim (dec_lt y x) [
      | yes b ↦ t.down y x (omega arith) l (λ z p q. last_uncut d x e z (omega arith) q)
      | no nb ↦ t.up x y (omega arith) i
    ]

    -- the last of the path has no step left, and is the first of its segment: that is a component
    pub trail_closes : (done' : ℕ → Bool) (comp' pos' : ℕ → ℕ) (cut' : ℕ → Bool) (d : ℕ) → suc d ≡ depth → Spent R past (node (path d)) → cut (path d) ≡ true
        → ((a : ℕ) → a < m → done a ≡ true → (done' a ≡ true) × (comp' a ≡ comp a))
        → ((x : ℕ) → path d ≤ x → x < top → (done' (node x) ≡ true) × (comp' (node x) ≡ next))
        → ((a : ℕ) → a < m → done' a ≡ true → (done a ≡ true) ⊎ ((x : ℕ) × (path d ≤ x) × (x < top) × (node x ≡ a)))
        → ((z : ℕ) → z < path d → cut' z ≡ cut z) → ((z : ℕ) → path d ≤ z → cut' z ≡ false)
        → ((x : ℕ) → x < path d → pos' (node x) ≡ pos (node x))
        → Trail R past m seen done' comp' (suc next) pos' node (path d) cut' path d
    trail_closes done' comp' pos' cut' d e s c kept new only low high still =
        let lt : path d < top = t.path_below d (omega arith) in
        record {
          on_job = λ x l. t.on_job x (omega arith);
          on_open = λ x l. elim (cases (done' (node x))) [
            | inr n ↦ n
            | inl y ↦ elim (only (node x) (t.on_job x (omega arith)) y) [
              | inl o ↦ absurd (clash o (t.on_open x (omega arith)))
              | inr (z, a, b, q) ↦ absurd (omega (arith, t.on_pos z b, t.on_pos x (omega arith), ap pos q))
            ]
          ];
          on_seen = λ x l. t.on_seen x (omega arith);
          on_pos = λ x l. still x l ∙ t.on_pos x (omega arith);
          done_seen = λ a l y. elim (only a l y) [ inl o ↦ t.done_seen a l o | inr (x, k, b, q) ↦ sym (ap seen q) ∙ t.on_seen x b ];
          seen_is = λ a l y. elim (t.seen_is a l y) [
            | inl o ↦ inl (kept a l o).0
            | inr (x, b, q) ↦ elim (dec_lt x (path d)) [
              | yes p ↦ inr (x, p, q)
              | no np ↦ inl (subst (λ (v : ℕ). done' v ≡ true) q (new x (omega arith) b).0)
            ]
          ];
          fresh = t.fresh;
          up = λ x y l k. t.up x y l (omega arith);
          down = λ x y l k u. t.down x y l (omega arith) (λ z a b. sym (low z (omega arith)) ∙ u z a b);
          closed = λ a b la lb y r. elim (only a la y) [
            | inl o ↦ let (h, g) = t.closed a b la lb o r in ((kept b lb h).0, omega (arith, (kept b lb h).1, (kept a la o).1, g))
            | inr (x, k, l, q) ↦ inside a b x la lb k l q r
          ];
          linked = λ a b la lb ya yb q. elim (only a la ya) [
            | inl o ↦ elim (only b lb yb) [
              | inl p ↦ t.linked a b la lb o p (sym (kept a la o).1 ∙ (q ∙ (kept b lb p).1))
              | inr (x, k, l, z) ↦ absurd (omega (arith, (kept a la o).1, t.numbered a la o, q, ap comp' z, (new x k l).1))
            ]
            | inr (x, k, l, z) ↦ elim (only b lb yb) [
              | inl p ↦ absurd (omega (arith, (kept b lb p).1, t.numbered b lb p, q, ap comp' z, (new x k l).1))
              | inr (y, j, i, v) ↦ subst₂ (λ (f g : ℕ). Reach R f g) z v (together d x y e k l j i)
            ]
          ];
          numbered = λ a l y. elim (only a l y) [
            | inl o ↦ omega (arith, (kept a l o).1, t.numbered a l o)
            | inr (x, k, b, q) ↦ omega (arith, (new x k b).1, ap comp' q)
          ];
          past_on = λ x b l lb p. elim (t.past_on x b (omega arith) lb p) [
            | inl o ↦ inl (kept b lb o).0
            | inr (y, ly, q, u) ↦ elim (dec_lt y (path d)) [
              | yes k ↦ inr (y, k, q, λ z g h. low z (omega arith) ∙ u z g h)
              | no nk ↦ inl (subst (λ (v : ℕ). done' v ≡ true) q (new y (omega arith) ly).0)
            ]
          ];
          path_below = λ k l. t.path_rises k d l (omega arith);
          path_rises = λ k j l h. t.path_rises k j l (omega arith);
          cut_on = λ z y. elim (dec_lt z (path d)) [
            | yes l ↦ let (k, h, q) = t.cut_on z (sym (low z l) ∙ y) in (k, sooner k z h l q, q)
            | no nl ↦ absurd (clash y (high z (omega arith)))
          ];
          rest = λ x l. elim (t.rest x (omega arith)) [ inl o ↦ inl o | inr (k, h, q) ↦ inr (k, sooner k x h l q, q) ];
          first = λ l. low 0 l ∙ t.first (omega arith);
        }
      where
        sooner : (k z : ℕ) → k < depth → z < path d → path k ≡ z → k < d
        sooner k z h l q = elim (ℕ_discrete k d) [ yes w ↦ absurd (omega (arith, ap path w)) | no ne ↦ omega arith ]

        spent : (x : ℕ) → path d ≤ x → x < top → Spent R past (node x)
        spent x k l = elim (t.rest x l) [
          | inl o ↦ o
          | inr (j, h, q) ↦ elim (ℕ_discrete j d) [
            | yes w ↦ subst (λ (v : ℕ). Spent R past (node v)) (sym (ap path w) ∙ q) s
            | no ne ↦ absurd (omega (arith, t.path_rises j d (omega arith) (omega arith)))
          ]
        ]

        inside : (a b x : ℕ) → a < m → b < m → path d ≤ x → x < top → node x ≡ a → R a b → (done' b ≡ true) × (comp' b ≤ comp' a)
        inside a b x la lb k l q r = elim (t.past_on x b l lb (spent x k l b (subst (λ (v : ℕ). R v b) (sym q) r))) [
          | inl o ↦ ((kept b lb o).0, omega (arith, (kept b lb o).1, t.numbered b lb o, (new x k l).1, ap comp' q))
          | inr (y, ly, z, u) ↦ elim (dec_lt y (path d)) [
            | yes p ↦ absurd (clash c (u (path d) p k))
            | no np ↦ let (g, h) = new y (omega arith) ly in (sym (ap done' z) ∙ g, omega (arith, h, ap comp' z, (new x k l).1, ap comp' q))
          ]
        ]

    -- at the end all are done
    pub trail_done : depth ≡ 0 → ((a : ℕ) → a < m → seen a ≡ true) → (a : ℕ) → a < m → done a ≡ true
    trail_done e all a l = elim (t.seen_is a l (all a l)) [ inl y ↦ y | inr (x, k, q) ↦ absurd (omega (arith, none_on e)) ]

-- one more component is done, which is loose where the flag says so
pub loosened_more : (R : ℕ → ℕ → Type 0) (exits : ℕ → Type 0) (m : ℕ) (done done' loose loose' : ℕ → Bool) (Member : ℕ → Type 0) (flag : Bool)
    → Loosened R exits m done loose
    → ((a b : ℕ) → a < m → b < m → done a ≡ true → R a b → done b ≡ true)
    → ((a b : ℕ) → a < m → b < m → done' a ≡ true → R a b → done' b ≡ true)
    → ((a : ℕ) → a < m → done' a ≡ true → (done a ≡ true) ⊎ Member a)
    → ((a b : ℕ) → Member a → Member b → Reach R a b)
    → ((a : ℕ) → a < m → done a ≡ true → loose' a ≡ loose a)
    → ((a : ℕ) → a < m → Member a → loose' a ≡ flag)
    → (flag ≡ true → (a : ℕ) × Member a × LooseBy R exits m done loose a)
    → ((a : ℕ) → a < m → Member a → LooseBy R exits m done loose a → flag ≡ true)
    → Loosened R exits m done' loose'
loosened_more R exits m done done' loose loose' Member flag s closed closed' only linked kept new witness each = record {
  frees = λ a l d h. elim (only a l d) [
    | inl o ↦ s.frees a l o (sym (kept a l o) ∙ h)
    | inr i ↦ from a i (witness (sym (new a l i) ∙ h))
  ];
  exit_loose = λ a l d o. elim (only a l d) [
    | inl y ↦ kept a l y ∙ s.exit_loose a l y o
    | inr i ↦ new a l i ∙ each a l i (inl o)
  ];
  next_loose = λ a b la lb d r h. elim (only a la d) [
    | inl o ↦
        let y : done b ≡ true = closed a b la lb o r in
        kept a la o ∙ s.next_loose a b la lb o r (sym (kept b lb y) ∙ h)
    | inr i ↦ new a la i ∙ elim (only b lb (closed' a b la lb d r)) [
      | inl y ↦ each a la i (inr (b, lb, r, y, sym (kept b lb y) ∙ h))
      | inr j ↦ sym (new b lb j) ∙ h
    ]
  ];
}
  where
    from : (a : ℕ) → Member a → (c : ℕ) × Member c × LooseBy R exits m done loose c → (e : ℕ) × Reach R a e × exits e
    from a i (c, j, inl o) = (c, linked a c i j, o)
    from a i (c, j, inr (b, lb, r, y, h)) =
        let (e, w, o) = s.frees b lb y h in
        (e, reach_trans R a c e (linked a c i j) (step r w), o)
