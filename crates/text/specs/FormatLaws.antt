-- What a line's words name, by how many there are.
use Rattle.std.specs.Prelude.{◌≡◌, ℕ, ◌+◌, ◌≤◌, Bool, true, false, cond, List, [], ◌∷◌, length, drop, ◌≢◌, Float, Option, Some, None, option_map}
use Rattle.std.proofs.Math.Path.{refl, sym}
use Rattle.std.proofs.Common.{ap, ◌∙◌, arith, drop_of_length-le, drop-cons}
use Rattle.steps.specs.State as steps
use Rattle.steps.specs.Session.{Call, resets, value_of, has_constraints, has_edits, clips, removes, removes_edit, drops, adds_edit, suggests}
use Rattle.steps.specs.State.{Term}
use Rattle.changes.specs.terms.Terms.{no_pack, pack_of}
use Rattle.changes.specs.declared.terms.Pack.{Pack}
use Rattle.text.specs.declared.calls.Call as code
use Rattle.text.specs.declared.calls.Line.{Line}
use Rattle.text.specs.Choices.{yes-in, no-in}
use Rattle.text.specs.Digits.{digits_of, up_to, same_bytes}
use Rattle.text.specs.Floats.{id_of, budget_of, float_of}
use Rattle.text.specs.Names.{reset_name, fetch_name, value_name, hascon_name, hasedit_name, clip_name, remove_name, removeedit_name, addedit_name, suggest_name, create_name, add_name, addg_name, drop_name}
use Rattle.text.specs.Words.{word}
use Rattle.text.specs.Format.{one_word, two_words, three_words, four_words, five_words, add_words, long_words, call_of, of_add, of_id_budget, of_edit, of_reals, counts, relation_of, terms_of}
use Rattle.text.specs.Lines.{as_related, head_of, head_at, add_at, packed_from, as_terms, as_call, line_of, line_with}

pub call-1 : (ws : List (List ℕ)) → length ws ≡ 1 → call_of ws ≡ one_word (word ws 0)
unfolding call_of
call-1 [] h = absurd (omega arith)
call-1 (a ∷ []) h = refl
call-1 (a ∷ b ∷ ws) h = absurd (omega arith)

pub call-2 : (ws : List (List ℕ)) → length ws ≡ 2 → call_of ws ≡ two_words (word ws 0) (word ws 1)
unfolding call_of
call-2 [] h = absurd (omega arith)
call-2 (a ∷ []) h = absurd (omega arith)
call-2 (a ∷ b ∷ []) h = refl
call-2 (a ∷ b ∷ c ∷ ws) h = absurd (omega arith)

pub call-3 : (ws : List (List ℕ)) → length ws ≡ 3 → call_of ws ≡ three_words (word ws 0) (word ws 1) (word ws 2)
unfolding call_of
call-3 [] h = absurd (omega arith)
call-3 (a ∷ []) h = absurd (omega arith)
call-3 (a ∷ b ∷ []) h = absurd (omega arith)
call-3 (a ∷ b ∷ c ∷ []) h = refl
call-3 (a ∷ b ∷ c ∷ d ∷ ws) h = absurd (omega arith)

pub call-4 : (ws : List (List ℕ)) → length ws ≡ 4 → call_of ws ≡ four_words (word ws 0) (word ws 1) (word ws 2) (word ws 3)
unfolding call_of
call-4 [] h = absurd (omega arith)
call-4 (a ∷ []) h = absurd (omega arith)
call-4 (a ∷ b ∷ []) h = absurd (omega arith)
call-4 (a ∷ b ∷ c ∷ []) h = absurd (omega arith)
call-4 (a ∷ b ∷ c ∷ d ∷ []) h = refl
call-4 (a ∷ b ∷ c ∷ d ∷ e ∷ ws) h = absurd (omega arith)

pub call-5 : (ws : List (List ℕ)) → length ws ≡ 5 → call_of ws ≡ five_words (word ws 0) (word ws 1) (word ws 2) (word ws 3) (word ws 4)
unfolding call_of
call-5 [] h = absurd (omega arith)
call-5 (a ∷ []) h = absurd (omega arith)
call-5 (a ∷ b ∷ []) h = absurd (omega arith)
call-5 (a ∷ b ∷ c ∷ []) h = absurd (omega arith)
call-5 (a ∷ b ∷ c ∷ d ∷ []) h = absurd (omega arith)
call-5 (a ∷ b ∷ c ∷ d ∷ e ∷ []) h = refl
call-5 (a ∷ b ∷ c ∷ d ∷ e ∷ f ∷ ws) h = absurd (omega arith)

-- none or six
pub call_none : (ws : List (List ℕ)) → length ws ≤ 6 → (length ws ≢ 1) → (length ws ≢ 2) → (length ws ≢ 3) → (length ws ≢ 4) → (length ws ≢ 5) → call_of ws ≡ None
unfolding call_of
call_none [] h p q r s t = refl
call_none (a ∷ []) h p q r s t = absurd (p refl)
call_none (a ∷ b ∷ []) h p q r s t = absurd (q refl)
call_none (a ∷ b ∷ c ∷ []) h p q r s t = absurd (r refl)
call_none (a ∷ b ∷ c ∷ d ∷ []) h p q r s t = absurd (s refl)
call_none (a ∷ b ∷ c ∷ d ∷ e ∷ []) h p q r s t = absurd (t refl)
call_none (a ∷ b ∷ c ∷ d ∷ e ∷ f ∷ []) h p q r s t = refl
call_none (a ∷ b ∷ c ∷ d ∷ e ∷ f ∷ g ∷ ws) h p q r s t = absurd (omega arith)

pub call-7 : (ws : List (List ℕ)) → 7 ≤ length ws → call_of ws ≡ long_words (word ws 0) (word ws 1) (word ws 2) (word ws 3) (word ws 4) (word ws 5) (word ws 6) (drop 7 ws)
unfolding call_of
call-7 [] h = absurd (omega arith)
call-7 (a ∷ []) h = absurd (omega arith)
call-7 (a ∷ b ∷ []) h = absurd (omega arith)
call-7 (a ∷ b ∷ c ∷ []) h = absurd (omega arith)
call-7 (a ∷ b ∷ c ∷ d ∷ []) h = absurd (omega arith)
call-7 (a ∷ b ∷ c ∷ d ∷ e ∷ []) h = absurd (omega arith)
call-7 (a ∷ b ∷ c ∷ d ∷ e ∷ f ∷ []) h = absurd (omega arith)
call-7 (a ∷ b ∷ c ∷ d ∷ e ∷ f ∷ g ∷ ws) h = refl

-- an add of its words before the terms and its terms
pub add-line : (g : Option ℕ) (c : Option ℕ) (b : Option ℕ) (r : Option steps.Relation) (k : Option Float) (ts : Option (List Term)) → line_with (head_of g c b (as_related r) k) (packed_from no_pack ts) ≡ line_of (of_add g c b r k ts)
unfolding packed_from pack_of
add-line (Some g) (Some n) (Some b) (Some r) (Some k) (Some ts) = refl
add-line (Some g) (Some n) (Some b) (Some r) (Some k) None = refl
add-line (Some g) (Some n) (Some b) (Some r) None ts = refl
add-line (Some g) (Some n) (Some b) None k ts = refl
add-line (Some g) (Some n) None r k ts = refl
add-line (Some g) None b r k ts = refl
add-line None c b r k ts = refl

-- ---- the words of an add, from place i on

module _ (g : Option ℕ) (i : ℕ) (ws : List (List ℕ)) where
  pub add-uncounted : counts (up_to 4294967295 (digits_of 10 (word ws (i + 5)))) (length (drop (i + 6) ws)) ≡ false → line_of None ≡ line_of (add_at g i ws)
  unfolding add_words
  add-uncounted e = no-in line_of _ _ e refl

  pub add-counted : counts (up_to 4294967295 (digits_of 10 (word ws (i + 5)))) (length (drop (i + 6) ws)) ≡ true → line_with (head_at g i ws) (packed_from no_pack (terms_of (drop (i + 6) ws))) ≡ line_of (add_at g i ws)
  unfolding add_words head_at
  add-counted e = yes-in line_of _ _ e (add-line g (id_of (word ws i)) (budget_of (word ws (i + 1))) (relation_of (word ws (i + 2)) (float_of (word ws (i + 3)))) (float_of (word ws (i + 4))) (terms_of (drop (i + 6) ws)))

-- ---- a line of seven words or more

module _ (ws : List (List ℕ)) (long : 7 ≤ length ws) where
  pub long-add : same_bytes (word ws 0) add_name ≡ true → line_of (add_at (Some 1) 1 ws) ≡ line_of (call_of ws)
  unfolding long_words
  long-add e = yes-in line_of _ _ e refl ∙ sym (ap line_of (call-7 ws long))

  module _ (other : same_bytes (word ws 0) add_name ≡ false) where
    pub long-other : same_bytes (word ws 0) addg_name ≡ false → line_of None ≡ line_of (call_of ws)
    unfolding long_words
    long-other e = no-in line_of _ _ other (no-in line_of _ _ e refl) ∙ sym (ap line_of (call-7 ws long))

    module _ (name : same_bytes (word ws 0) addg_name ≡ true) where
      pub addg-short : length ws ≤ 7 → line_of None ≡ line_of (call_of ws)
      unfolding long_words
      addg-short h = no-in line_of _ _ other (yes-in line_of _ _ name (rw (drop_of_length-le ws h) refl)) ∙ sym (ap line_of (call-7 ws long))

      pub addg-long : 8 ≤ length ws → line_of (add_at (budget_of (word ws 1)) 2 ws) ≡ line_of (call_of ws)
      unfolding long_words
      addg-long h = no-in line_of _ _ other (yes-in line_of _ _ name (rw (drop-cons ws 7 [] (omega arith)) refl)) ∙ sym (ap line_of (call-7 ws long))

-- ---- a line too short for an add has no terms

module _ where
  -- whichever way a test goes
  either : (t : Bool) (a b : Option Call) → as_terms a ≡ no_pack → as_terms b ≡ no_pack → as_terms (cond t a b) ≡ no_pack
  either true a b p q = p
  either false a b p q = q

  of-id : (f : ℕ → Call) → ((n : ℕ) → as_terms (Some (f n)) ≡ no_pack) → (i : Option ℕ) → as_terms (option_map f i) ≡ no_pack
  of-id f h (Some n) = h n
  of-id f h None = refl

  of-real : (f : Float → Call) → ((x : Float) → as_terms (Some (f x)) ≡ no_pack) → (x : Option Float) → as_terms (option_map f x) ≡ no_pack
  of-real f h (Some x) = h x
  of-real f h None = refl

  of-id-budget : (f : ℕ → ℕ → Call) → ((n b : ℕ) → as_terms (Some (f n b)) ≡ no_pack) → (i : Option ℕ) (b : Option ℕ) → as_terms (of_id_budget f i b) ≡ no_pack
  of-id-budget f h (Some n) (Some b) = h n b
  of-id-budget f h (Some n) None = refl
  of-id-budget f h None b = refl

  of-edit : (f : ℕ → Float → ℕ → Call) → ((v : ℕ) (x : Float) (b : ℕ) → as_terms (Some (f v x b)) ≡ no_pack) → (i : Option ℕ) (x : Option Float) (b : Option ℕ) → as_terms (of_edit f i x b) ≡ no_pack
  of-edit f h (Some v) (Some x) (Some b) = h v x b
  of-edit f h (Some v) (Some x) None = refl
  of-edit f h (Some v) None b = refl
  of-edit f h None x b = refl

  of-reals : (a b c w : Option Float) → as_terms (of_reals a b c w) ≡ no_pack
  of-reals (Some a) (Some b) (Some c) (Some w) = refl
  of-reals (Some a) (Some b) (Some c) None = refl
  of-reals (Some a) (Some b) None w = refl
  of-reals (Some a) None c w = refl
  of-reals None b c w = refl

pub no-terms : (ws : List (List ℕ)) → length ws ≤ 6 → as_terms (call_of ws) ≡ no_pack
unfolding call_of one_word two_words three_words four_words five_words
no-terms [] h = refl
no-terms (name ∷ []) h = either (same_bytes name reset_name) _ _ refl (either (same_bytes name fetch_name) _ _ refl refl)
no-terms (name ∷ a ∷ []) h =
    either (same_bytes name value_name) _ _ (of-id value_of (λ n. refl) (id_of a))
    (either (same_bytes name hascon_name) _ _ (of-id has_constraints (λ n. refl) (id_of a))
    (either (same_bytes name hasedit_name) _ _ (of-id has_edits (λ n. refl) (id_of a))
    (either (same_bytes name clip_name) _ _ (of-real clips (λ x. refl) (float_of a)) (either (same_bytes name reset_name) _ _ (of-real resets (λ x. refl) (float_of a)) refl))))
no-terms (name ∷ a ∷ b ∷ []) h =
    either (same_bytes name remove_name) _ _ (of-id-budget removes (λ n b. refl) (id_of a) (budget_of b))
    (either (same_bytes name removeedit_name) _ _ (of-id-budget removes_edit (λ n b. refl) (id_of a) (budget_of b))
    (either (same_bytes name drop_name) _ _ (of-id-budget drops (λ g b. refl) (budget_of a) (budget_of b)) refl))
no-terms (name ∷ a ∷ b ∷ c ∷ []) h =
    either (same_bytes name addedit_name) _ _ (of-edit adds_edit (λ v x b. refl) (id_of a) (float_of b) (budget_of c))
    (either (same_bytes name suggest_name) _ _ (of-edit suggests (λ v x b. refl) (id_of a) (float_of b) (budget_of c)) refl)
no-terms (name ∷ a ∷ b ∷ c ∷ d ∷ []) h = either (same_bytes name create_name) _ _ (of-reals (float_of a) (float_of b) (float_of c) (float_of d)) refl
no-terms (name ∷ a ∷ b ∷ c ∷ d ∷ e ∷ []) h = refl
no-terms (name ∷ a ∷ b ∷ c ∷ d ∷ e ∷ f ∷ ws) h = absurd (omega arith)

-- ---- a line too short for an add, as its call alone

module _ (ws : List (List ℕ)) (short : length ws ≤ 6) where
  pub short-no-line : as_call (call_of ws) ≡ None → None ≡ line_of (call_of ws)
  short-no-line e = sym (ap (option_map {U = Line} (λ c. record { call = c; terms = as_terms (call_of ws) })) e)

  pub short-line : {c : code.Call} {t : Pack} → t ≡ no_pack → as_call (call_of ws) ≡ Some c → ◌≡◌ {A = Option Line} (Some record { call = c; terms = t }) (line_of (call_of ws))
  short-line e f = rw (e, ← no-terms ws short) (sym (ap (option_map {U = Line} (λ c. record { call = c; terms = as_terms (call_of ws) })) f))
