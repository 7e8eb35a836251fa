-- What adding and removing do to a tableau: a row more, a row less, a column that goes. Assumes nothing.
use Rattle.std.specs.Prelude.{◌≡◌, ◌≢◌, ◌↔◌, [], ◌∷◌, ℕ, ◌<◌, neg_ℤ, ◌+ℤ◌, ◌-ℤ◌, ◌*ℤ◌}
use Rattle.std.proofs.Common.{sym, ap, ap₂, ◌∙◌, subst, true≢false}
use Rattle.std.proofs.Math.Bool.{true, false}
use Rattle.std.proofs.Math.IntN.{ℤ}
use Rattle.laws.specs.Ring.{ring, v, k, ◌⊞◌, ◌⊠◌, ⊟◌, ◌⊟⊟◌}
use Rattle.simplex.specs.Ord.{0ℤ, 1ℤ}
use Rattle.simplex.specs.Lin.{Vec, δ, δ-other, dot, plus, dot-plus, dot-cong, dot-δ}
use Rattle.simplex.specs.At.{at, At, here, there, at?, at_here, at_there}
use Rattle.simplex.specs.Tab.{Solves, out, out-solves}
use Rattle.simplex.specs.Basis.{Mask, Shape, Clear}

-- ---- building a row: a term's row, the unit row of a symbol that is not basic, is inserted with a factor. On every solution that is the term
pub insert-term : (n : ℕ) (R : ℕ → Vec) (r : Vec) (c : ℤ) (x : ℕ) (σ : Vec) → x < n → Solves n R σ → dot n (plus r c (R x)) σ ≡ dot n r σ +ℤ c *ℤ σ x
insert-term n R r c x σ h s = dot-plus n r c (R x) σ ∙ ap (λ z. dot n r σ +ℤ c *ℤ z) (sym (s x h))

-- ---- a row more: r holds no basic column and has c, 1 or -1, at x; x becomes basic
module _ (n : ℕ) (B : Mask) (R : ℕ → Vec) (S : Shape n B R) (x : ℕ) (c : ℤ) (r : Vec) (free : B x ≡ false) (in-n : x < n) (x≢0 : x ≢ 0) (clear : Clear B r) (cell : r x ≡ c) (one : c *ℤ c ≡ 1ℤ) where
  pub add-clear : (w : Vec) → Clear B w → Clear (at x true B) (out x c r w)
  add-clear w h b t = go (at? x true B b)
    where
      go : At x true B b → out x c r w b ≡ 0ℤ
      go (here p e) =
          ap (out x c r w) p ∙ ap (λ z. w x +ℤ neg_ℤ (w x *ℤ c) *ℤ z) cell
          ∙ ring (w x ∷ c ∷ []) (v 0 ⊞ (⊟ (v 0 ⊠ v 1)) ⊠ v 1) (v 0 ⊟⊟ v 0 ⊠ (v 1 ⊠ v 1)) tt ∙ ap (λ z. w x -ℤ w x *ℤ z) one ∙ ring (w x ∷ []) (v 0 ⊟⊟ v 0 ⊠ k 1ℤ) (k 0ℤ) tt
      go (there p e) =
          ap₂ (λ (a d : ℤ). a +ℤ neg_ℤ (w x *ℤ c) *ℤ d) (h b (sym e ∙ t)) (clear b (sym e ∙ t)) ∙ ring (w x ∷ c ∷ []) (k 0ℤ ⊞ (⊟ (v 0 ⊠ v 1)) ⊠ k 0ℤ) (k 0ℤ) tt

  pub add-shape : Shape n (at x true B) (λ j. out x c r (R j))
  add-shape = record {
    below = λ b t. elim (at? x true B b) [ here p e ↦ subst (λ (y : ℕ). y < n) (sym p) in-n | there p e ↦ S.below b (sym e ∙ t) ];
    const = elim (at? x true B 0) [ here p e ↦ absurd (x≢0 (sym p)) | there p e ↦ e ∙ S.const ];
    unit = λ j t i. unit j t i (at? x true B j);
    gone = λ b t j. add-clear (R j) (λ d u. S.gone d u j) b t;
  }
    where
      unit : (j : ℕ) → at x true B j ≡ false → (i : ℕ) → At x true B j → out x c r (R j) i ≡ δ j i
      unit j t i (here p e) = absurd (true≢false (sym e ∙ t))
      unit j t i (there p e) =
          ap (λ z. R j i +ℤ neg_ℤ (z *ℤ c) *ℤ r i) (S.unit j (sym e ∙ t) x ∙ δ-other p) ∙ ring (R j i ∷ c ∷ r i ∷ []) (v 0 ⊞ (⊟ (k 0ℤ ⊠ v 1)) ⊠ v 2) (v 0) tt ∙ S.unit j (sym e ∙ t) i

  -- its solutions are the old ones on which r is 0
  pub add-solves : (σ : Vec) → Solves n (λ j. out x c r (R j)) σ ↔ (Solves n R σ × (dot n r σ ≡ 0ℤ))
  add-solves σ = out-solves n R x c r σ in-n (S.unit x free) one

-- a row without p does not see it
pub dot_at : (n p : ℕ) (y : ℤ) (w σ : Vec) → w p ≡ 0ℤ → dot n w (at p y σ) ≡ dot n w σ
dot_at n p y w σ h = dot-cong n w (at p y σ) w σ (λ j _. go j (at? p y σ j))
  where
    go : (j : ℕ) → At p y σ j → w j *ℤ at p y σ j ≡ w j *ℤ σ j
    go j (here e q) =
        ap (λ z. w z *ℤ at p y σ j) e ∙ ap (λ z. z *ℤ at p y σ j) h ∙ ring (at p y σ j ∷ σ j ∷ []) (k 0ℤ ⊠ v 0) (k 0ℤ ⊠ v 1) tt ∙ ap (λ z. z *ℤ σ j) (sym h) ∙ ap (λ z. w z *ℤ σ j) (sym e)
    go j (there e q) = ap (λ z. w j *ℤ z) q

-- ---- a row less: the basic column p gets its unit row back. Its solutions are the old ones with any other value at p
unfoldable pub dropped : ℕ → (ℕ → Vec) → ℕ → Vec
dropped p R = at p (δ p) R

module _ (n : ℕ) (B : Mask) (R : ℕ → Vec) (S : Shape n B R) (p : ℕ) (basic : B p ≡ true) where
  in-n : p < n
  in-n = S.below p basic

  pub drop-solves : (σ : Vec) → Solves n (dropped p R) σ ↔ Solves n R (at p (dot n (R p) σ) σ)
  unfolding dropped
  drop-solves σ = (to, from)
    where
      y : ℤ
      y = dot n (R p) σ

      unseen : (j : ℕ) → dot n (R j) (at p y σ) ≡ dot n (R j) σ
      unseen j = dot_at n p y (R j) σ (S.gone p basic j)

      to : Solves n (at p (δ p) R) σ → Solves n R (at p y σ)
      to s j h = go (at? p y σ j)
        where
          go : At p y σ j → at p y σ j ≡ dot n (R j) (at p y σ)
          go (here q e) = e ∙ ap (λ (z : ℕ). dot n (R z) σ) (sym q) ∙ sym (unseen j)
          go (there q e) = e ∙ s j h ∙ ap (λ (w : Vec). dot n w σ) (at_there p (δ p) R j q) ∙ sym (unseen j)

      from : Solves n R (at p y σ) → Solves n (at p (δ p) R) σ
      from s j h = go (at? p (δ p) R j)
        where
          go : At p (δ p) R j → σ j ≡ dot n (at p (δ p) R j) σ
          go (here q e) = ap σ q ∙ sym (dot-δ n p σ in-n) ∙ ap (λ (w : Vec). dot n w σ) (sym e)
          go (there q e) = sym (at_there p y σ j q) ∙ s j h ∙ unseen j ∙ ap (λ (w : Vec). dot n w σ) (sym e)

  pub drop-shape : Shape n (at p false B) (dropped p R)
  unfolding dropped
  drop-shape = record {
    below = λ b t. below b t (at? p false B b);
    const = elim (at? p false B 0) [ here q e ↦ e | there q e ↦ e ∙ S.const ];
    unit = λ j t i. unit j t i (at? p false B j);
    gone = λ b t j. gone b t j (at? p false B b);
  }
    where
      below : (b : ℕ) → at p false B b ≡ true → At p false B b → b < n
      below b t (here q e) = absurd (true≢false (sym t ∙ e))
      below b t (there q e) = S.below b (sym e ∙ t)

      unit : (j : ℕ) → at p false B j ≡ false → (i : ℕ) → At p false B j → at p (δ p) R j i ≡ δ j i
      unit j t i (here q e) = ap (λ (z : ℕ). at p (δ p) R z i) q ∙ ap (λ (w : Vec). w i) (at_here p (δ p) R) ∙ ap (λ (z : ℕ). δ z i) (sym q)
      unit j t i (there q e) = ap (λ (w : Vec). w i) (at_there p (δ p) R j q) ∙ S.unit j (sym e ∙ t) i

      gone : (b : ℕ) → at p false B b ≡ true → (j : ℕ) → At p false B b → at p (δ p) R j b ≡ 0ℤ
      gone b t j (here q e) = absurd (true≢false (sym t ∙ e))
      gone b t j (there q e) = go (at? p (δ p) R j)
        where
          go : At p (δ p) R j → at p (δ p) R j b ≡ 0ℤ
          go (here x y) = ap (λ (w : Vec). w b) y ∙ δ-other (λ z. q (sym z))
          go (there x y) = ap (λ (w : Vec). w b) y ∙ S.gone b (sym e ∙ t) j

-- ---- a column less: the cells of p, which is not basic, go from every row but its own. Its solutions are those that solved the old tableau with 0 at p
unfoldable pub killed : ℕ → (ℕ → Vec) → ℕ → Vec
killed p R = at p (δ p) (λ j. at p 0ℤ (R j))

pub kill-solves : (n p : ℕ) (R : ℕ → Vec) (σ : Vec) → p < n → ((i : ℕ) → R p i ≡ δ p i) → Solves n (killed p R) σ ↔ Solves n R (at p 0ℤ σ)
unfolding killed
kill-solves n p R σ in-n own = (to, from)
  where
    move : (j : ℕ) → dot n (at p 0ℤ (R j)) σ ≡ dot n (R j) (at p 0ℤ σ)
    move j = dot-cong n (at p 0ℤ (R j)) σ (R j) (at p 0ℤ σ) (λ i _. go i (at? p 0ℤ (R j) i))
      where
        go : (i : ℕ) → At p 0ℤ (R j) i → at p 0ℤ (R j) i *ℤ σ i ≡ R j i *ℤ at p 0ℤ σ i
        go i (here q e) =
            ap (λ z. z *ℤ σ i) e ∙ ring (σ i ∷ R j i ∷ []) (k 0ℤ ⊠ v 0) (v 1 ⊠ k 0ℤ) tt ∙ ap (λ z. R j i *ℤ z) (sym (at_here p 0ℤ σ) ∙ ap (at p 0ℤ σ) (sym q))
        go i (there q e) = ap₂ ◌*ℤ◌ e (sym (at_there p 0ℤ σ i q))

    to : Solves n (at p (δ p) (λ j. at p 0ℤ (R j))) σ → Solves n R (at p 0ℤ σ)
    to s j h = go (at? p 0ℤ σ j)
      where
        go : At p 0ℤ σ j → at p 0ℤ σ j ≡ dot n (R j) (at p 0ℤ σ)
        go (here q e) =
            ap (at p 0ℤ σ) q ∙ sym (dot-cong n (R p) (at p 0ℤ σ) (δ p) (at p 0ℤ σ) (λ i _. ap (λ z. z *ℤ at p 0ℤ σ i) (own i)) ∙ dot-δ n p (at p 0ℤ σ) in-n)
            ∙ ap (λ (z : ℕ). dot n (R z) (at p 0ℤ σ)) (sym q)
        go (there q e) = e ∙ s j h ∙ ap (λ (w : Vec). dot n w σ) (at_there p (δ p) (λ j. at p 0ℤ (R j)) j q) ∙ move j

    from : Solves n R (at p 0ℤ σ) → Solves n (at p (δ p) (λ j. at p 0ℤ (R j))) σ
    from s j h = go (at? p (δ p) (λ j. at p 0ℤ (R j)) j)
      where
        go : At p (δ p) (λ j. at p 0ℤ (R j)) j → σ j ≡ dot n (at p (δ p) (λ j. at p 0ℤ (R j)) j) σ
        go (here q e) = ap σ q ∙ sym (dot-δ n p σ in-n) ∙ ap (λ (w : Vec). dot n w σ) (sym e)
        go (there q e) = sym (at_there p 0ℤ σ j q) ∙ s j h ∙ sym (move j) ∙ ap (λ (w : Vec). dot n w σ) (sym e)
