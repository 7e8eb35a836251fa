-- What each step of a whole run keeps: the tableau models the live constraints. Assumes nothing.
use Rattle.std.specs.Prelude.{◌≡◌, refl, ◌≢◌, ◌↔◌, List, [], ◌∷◌, ℕ, ◌<◌, true, false, ℤ, neg_ℤ, ◌+ℤ◌, ◌-ℤ◌, ◌*ℤ◌}
use Rattle.std.proofs.Common.{sym, ap, ◌∙◌, subst, inl, inr}
use Rattle.laws.specs.Ring.{ring, v, k, ◌⊞◌, ◌⊠◌, ⊟◌, ◌⊟⊟◌}
use Rattle.simplex.specs.Ord.{0ℤ, 1ℤ}
use Rattle.simplex.specs.Lin.{Vec, δ, dot}
use Rattle.simplex.specs.At.{at, at_here, at_there}
use Rattle.simplex.specs.Tab.{Solves, out, out-dot, pivoted, pivot, pivot-solves, pivot-objective}
use Rattle.simplex.specs.Basis.{Mask, Shape, Clear, swap, pivot-clear, pivot-shape}
use Rattle.simplex.specs.Opt.{Kind}
use Rattle.simplex.specs.Choose.{All, all-zip}
use Rattle.simplex.specs.Form.{Form, le!, eq!, ge!, le, eq, ge, soft, resid}
use Rattle.simplex.specs.Problem.{Con, Equation, total, Tag, Sounds, Models, resid-other}
use Rattle.simplex.specs.Change.{add-clear, add-shape, add-solves, dot_at, dropped, drop-solves, killed, kill-solves}

-- ---- a pivot keeps it
pub models-pivot : (n : ℕ) (kind : ℕ → Kind) (B : Mask) (R : ℕ → Vec) (o : Vec) (cs : List Con) (l e : ℕ) → Models n kind B R o cs
    → B l ≡ true → B e ≡ false → e < n → e ≢ 0 → R l e *ℤ R l e ≡ 1ℤ
    → Models n kind (swap l e B) (pivot l e R) (pivoted l e R o) cs
models-pivot n kind B R o cs l e D hl he in-n ne one = record {
  shape = pivot-shape n B R D.shape l e hl he in-n one ne;
  clear = pivot-clear n B R D.shape l e hl he in-n one o D.clear;
  sounds = D.sounds;
  solves = λ σ. ((λ s. (D.solves σ).0 ((back σ).0 s)), (λ s. (back σ).1 ((D.solves σ).1 s)));
  worth = λ σ s. pivot-objective n R l e o σ (D.shape.below l hl) ((back σ).0 s) ∙ D.worth σ ((back σ).0 s);
}
  where
    back : (σ : Vec) → Solves n (pivot l e R) σ ↔ Solves n R σ
    back σ = pivot-solves n R l e σ (D.shape.below l hl) in-n (D.shape.unit e he) one

-- ---- Add's steps 1 to 5: the row r is the constraint's, perhaps with all signs reversed (g is 1 or -1); the objective has its errors; x is the subject
pub unsign : (g y : ℤ) → g *ℤ g ≡ 1ℤ → g *ℤ y ≡ 0ℤ → y ≡ 0ℤ
unsign g y one h =
    ring (y ∷ []) (v 0) (k 1ℤ ⊠ v 0) tt ∙ ap (λ z. z *ℤ y) (sym one) ∙ ring (g ∷ y ∷ []) (v 0 ⊠ v 0 ⊠ v 1) (v 0 ⊠ (v 0 ⊠ v 1)) tt
    ∙ ap (λ z. g *ℤ z) h ∙ ring (g ∷ []) (v 0 ⊠ k 0ℤ) (k 0ℤ) tt

abbrev pub left : ℕ → Vec → Con → ℤ
left n σ c = resid c.form (dot n c.expr σ) (σ c.marker) (σ c.other)

pub models-add : (n : ℕ) (kind : ℕ → Kind) (B : Mask) (R : ℕ → Vec) (o o₁ : Vec) (cs : List Con) (c : Con) (r : Vec) (g : ℤ) (x : ℕ)
    → Models n kind B R o cs → Sounds n kind (c ∷ cs)
    → Clear B r → g *ℤ g ≡ 1ℤ → ((σ : Vec) → Solves n R σ → dot n r σ ≡ g *ℤ left n σ c)
    → Clear B o₁ → ((σ : Vec) → Solves n R σ → dot n o₁ σ ≡ total (c ∷ cs) σ)
    → B x ≡ false → x < n → x ≢ 0 → r x *ℤ r x ≡ 1ℤ
    → Models n kind (at x true B) (λ j. out x (r x) r (R j)) (out x (r x) r o₁) (c ∷ cs)
models-add n kind B R o o₁ cs c r g x D S cr gg row co worth free in-n ne one = record {
  shape = add-shape n B R D.shape x (r x) r free in-n ne cr refl one;
  clear = add-clear n B R D.shape x (r x) r free in-n ne cr refl one o₁ co;
  sounds = S;
  solves = λ σ. (to σ, from σ);
  worth = λ σ s. out-dot n x (r x) r o₁ σ ((new σ).0 s).1 ∙ worth σ ((new σ).0 s).0;
}
  where
    new : (σ : Vec) → Solves n (λ j. out x (r x) r (R j)) σ ↔ (Solves n R σ × (dot n r σ ≡ 0ℤ))
    new σ = add-solves n B R D.shape x (r x) r free in-n ne cr refl one σ

    to : (σ : Vec) → Solves n (λ j. out x (r x) r (R j)) σ → All (Equation n σ) (c ∷ cs)
    to σ s = (unsign g (left n σ c) gg (sym (row σ ((new σ).0 s).0) ∙ ((new σ).0 s).1), (D.solves σ).0 ((new σ).0 s).0)

    from : (σ : Vec) → All (Equation n σ) (c ∷ cs) → Solves n (λ j. out x (r x) r (R j)) σ
    from σ E = let s = (D.solves σ).1 E.1 in (new σ).1 (s, row σ s ∙ ap (λ z. g *ℤ z) E.0 ∙ ring (g ∷ []) (v 0 ⊠ k 0ℤ) (k 0ℤ) tt)

-- ---- a column that the constraints do not hold
abbrev pub Foreign : ℕ → Con → Type 0
Foreign p c = (Tag p c → ⊥) × (c.expr p ≡ 0ℤ)

same_left : (n p : ℕ) (y : ℤ) (σ : Vec) (c : Con) → Foreign p c → left n (at p y σ) c ≡ left n σ c
same_left n p y σ c f =
    ap (λ e. resid c.form e (at p y σ c.marker) (at p y σ c.other)) (dot_at n p y c.expr σ f.1)
    ∙ ap (λ s. resid c.form (dot n c.expr σ) s (at p y σ c.other)) (at_there p y σ c.marker (λ q. f.0 (inl (sym q))))
    ∙ resid-other c.form (dot n c.expr σ) (σ c.marker) (at p y σ c.other) (σ c.other) (λ b. at_there p y σ c.other (λ q. f.0 (inr (b, sym q))))

pub foreign : (n p : ℕ) (y : ℤ) (σ : Vec) (cs : List Con) → All (Foreign p) cs → All (Equation n (at p y σ)) cs ↔ All (Equation n σ) cs
foreign n p y σ cs F =
    ((λ E. all-zip {P = Foreign p} (λ c f e. sym (same_left n p y σ c f) ∙ e) cs F E), (λ E. all-zip {P = Foreign p} (λ c f e. same_left n p y σ c f ∙ e) cs F E))

-- ---- a temporary slack, or a removed constraint's other symbol, goes: enough that the tableau models the constraints where it is 0
pub models-kill : (n : ℕ) (R : ℕ → Vec) (cs : List Con) (p : ℕ) → p < n → ((i : ℕ) → R p i ≡ δ p i) → All (Foreign p) cs
    → ((σ : Vec) → σ p ≡ 0ℤ → Solves n R σ ↔ All (Equation n σ) cs)
    → (σ : Vec) → Solves n (killed p R) σ ↔ All (Equation n σ) cs
models-kill n R cs p in-n own F near σ =
    let b = kill-solves n p R σ in-n own in
    let m = near (at p 0ℤ σ) (at_here p 0ℤ σ) in
    let f = foreign n p 0ℤ σ cs F in
    ((λ s. f.0 (m.0 (b.0 s))), (λ E. b.1 (m.1 (f.1 E))))

-- ---- a removed constraint's marker, basic, goes with its row
solve-s : Form → ℤ → ℤ → ℤ
solve-s le! e t = neg_ℤ e
solve-s eq! e t = neg_ℤ e
solve-s ge! e t = e
solve-s le e t = t -ℤ e
solve-s eq e t = e +ℤ t
solve-s ge e t = e +ℤ t

solved : (f : Form) (e t : ℤ) → resid f e (solve-s f e t) t ≡ 0ℤ
unfolding solve-s
solved le! e t = ring (e ∷ []) (v 0 ⊞ ⊟ v 0) (k 0ℤ) tt
solved eq! e t = ring (e ∷ []) (v 0 ⊞ ⊟ v 0) (k 0ℤ) tt
solved ge! e t = ring (e ∷ []) (v 0 ⊟⊟ v 0) (k 0ℤ) tt
solved le e t = ring (e ∷ t ∷ []) (v 0 ⊞ (v 1 ⊟⊟ v 0) ⊟⊟ v 1) (k 0ℤ) tt
solved eq e t = ring (e ∷ t ∷ []) (v 0 ⊟⊟ (v 0 ⊞ v 1) ⊞ v 1) (k 0ℤ) tt
solved ge e t = ring (e ∷ t ∷ []) (v 0 ⊟⊟ (v 0 ⊞ v 1) ⊞ v 1) (k 0ℤ) tt

pub models-drop : (n : ℕ) (kind : ℕ → Kind) (B : Mask) (R : ℕ → Vec) (cs : List Con) (c : Con)
    → Shape n B R → B c.marker ≡ true → c.expr c.marker ≡ 0ℤ → (soft c.form ≡ true → c.other ≢ c.marker) → All (Foreign c.marker) cs
    → ((σ : Vec) → Solves n R σ ↔ All (Equation n σ) (c ∷ cs))
    → (σ : Vec) → Solves n (dropped c.marker R) σ ↔ All (Equation n σ) cs
models-drop n kind B R cs c S basic plain two F old σ = (to, from)
  where
    p : ℕ
    p = c.marker

    y : ℤ
    y = dot n (R c.marker) σ

    d : Solves n (dropped c.marker R) σ ↔ Solves n R (at c.marker (dot n (R c.marker) σ) σ)
    d = drop-solves n B R S c.marker basic σ

    to : Solves n (dropped c.marker R) σ → All (Equation n σ) cs
    to s = (foreign n p y σ cs F).0 ((old (at p y σ)).0 (d.0 s)).1

    z : ℤ
    z = solve-s c.form (dot n c.expr σ) (σ c.other)

    own : left n (at p z σ) c ≡ 0ℤ
    own =
        ap (λ e. resid c.form e (at p z σ p) (at p z σ c.other)) (dot_at n p z c.expr σ plain)
        ∙ ap (λ s. resid c.form (dot n c.expr σ) s (at p z σ c.other)) (at_here p z σ)
        ∙ resid-other c.form (dot n c.expr σ) z (at p z σ c.other) (σ c.other) (λ b. at_there p z σ c.other (two b))
        ∙ solved c.form (dot n c.expr σ) (σ c.other)

    from : All (Equation n σ) cs → Solves n (dropped c.marker R) σ
    from E =
        let s = (old (at p z σ)).1 (own, (foreign n p z σ cs F).1 E) in
        let same-z : z ≡ y = sym (at_here p z σ) ∙ s p (S.below p basic) ∙ dot_at n p z (R p) σ (S.gone p basic p) in
        d.1 (subst (λ (w : ℤ). Solves n R (at p w σ)) same-z s)
