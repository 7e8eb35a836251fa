-- A chain of tests: the first that holds decides.
use Rattle.std.specs.Prelude.{◌≡◌, Bool, true, false, cond}

module _ {A : Type 0} where
  pub yes : (a b : A) {t : Bool} {z : A} → t ≡ true → z ≡ a → z ≡ cond t a b
  yes a b e q = rw e q

  pub no : (a b : A) {t : Bool} {z : A} → t ≡ false → z ≡ b → z ≡ cond t a b
  no a b e q = rw e q

-- the same where something is made of what the chain gives
module _ {A B : Type 0} (f : A → B) where
  pub yes-in : (a b : A) {t : Bool} {z : B} → t ≡ true → z ≡ f a → z ≡ f (cond t a b)
  yes-in a b e q = rw e q

  pub no-in : (a b : A) {t : Bool} {z : B} → t ≡ false → z ≡ f b → z ≡ f (cond t a b)
  no-in a b e q = rw e q

-- equal arguments, equal results
module _ {A B C : Type 0} where
  pub ap2 : (f : A → B → C) {a x : A} {b y : B} → a ≡ x → b ≡ y → f a b ≡ f x y
  ap2 f p q = rw (p, q)

module _ {A B C D : Type 0} where
  pub ap3 : (f : A → B → C → D) {a x : A} {b y : B} {c z : C} → a ≡ x → b ≡ y → c ≡ z → f a b c ≡ f x y z
  ap3 f p q r = rw (p, q, r)

module _ {A B C D E : Type 0} where
  pub ap4 : (f : A → B → C → D → E) {a x : A} {b y : B} {c z : C} {d w : D} → a ≡ x → b ≡ y → c ≡ z → d ≡ w → f a b c d ≡ f x y z w
  ap4 f p q r s = rw (p, q, r, s)

module _ {A B C D E F : Type 0} where
  pub ap5 : (f : A → B → C → D → E → F) {a x : A} {b y : B} {c z : C} {d w : D} {e v : E} → a ≡ x → b ≡ y → c ≡ z → d ≡ w → e ≡ v → f a b c d e ≡ f x y z w v
  ap5 f p q r s t = rw (p, q, r, s, t)
