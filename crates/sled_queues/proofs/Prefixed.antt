-- What a change of one list leaves of the lists of all prefixes.
use Rattle.std.proofs.Common.{◌≡◌, ℕ, Bool, true, false, cond, List, [], ◌∷◌, ◌++◌, Option, Some, None, sym, refl, ap, ◌∙◌, subst, is_eq}
use Rattle.std.specs.Str.{bytes_eq}
use Rattle.std.specs.Ordering.{nat_cmp}
use Rattle.std.specs.declared.cmp.Ordering.{Ordering}
use Rattle.std.specs.Cmp.{eq_by_cmp_equiv}
use Rattle.std.specs.Cmp.Lexicographic.{slice_cmp, nat_list_cmp_total, nat_list_eq_equiv}
use Rattle.std.specs.Map.{lookup, KeepsOthers, IsKeyTest, AreApart}
use Rattle.std.specs.BTreeMap.{BTreeMap, get_by, UpdatesBy}
use Rattle.std.specs.Global.{Vec}
use Rattle.std.proofs.lemmas.Map.Text.{is_eq-slice_cmp}
use Rattle.std.proofs.lemmas.Slice.Eq.{bytes_eq-Decides}
use Rattle.sled_nodes.specs.Order.{Key}
use Rattle.sled_queues.specs.Lists.{Prefixes, items_of, at_prefix}

abbrev vec_cmp : Vec ℕ → Vec ℕ → Ordering
vec_cmp x y = slice_cmp nat_cmp x.items y.items

-- the value at a prefix
abbrev at_bytes : {X : Type 0} → BTreeMap (Vec ℕ) X → Key → Option X
at_bytes m p = get_by (λ (k : Vec ℕ). slice_cmp nat_cmp p k.items) m

apart : (a b k : Key) → bytes_eq a b ≡ false → is_eq (slice_cmp nat_cmp a k) ≡ true → is_eq (slice_cmp nat_cmp b k) ≡ false
apart a b k n y = is_eq-slice_cmp b k ∙ (nat_list_eq_equiv.symm b k ∙ sym (nat_list_eq_equiv.congr a k b (sym (is_eq-slice_cmp a k) ∙ y)) ∙ n)

module _ {K X : Type 0} (eq : K → K → Bool) (test : K → Bool) where
  others_stay : (old new : List (K × X)) → KeepsOthers eq test old new → (other : K → Bool) → IsKeyTest eq other → AreApart test other → lookup other new ≡ lookup other old
  unfolding KeepsOthers
  others_stay old new h = h

pub bytes_updated : {X : Type 0} (a : Key) (m n : BTreeMap (Vec ℕ) X) (w : Option X) → UpdatesBy vec_cmp (λ (k : Vec ℕ). slice_cmp nat_cmp a k.items) m n w → (p : Key) → at_bytes n p ≡ cond (bytes_eq a p) w (at_bytes m p)
bytes_updated a m n w h p = go (bytes_eq a p) refl
  where
    go : (b : Bool) → bytes_eq a p ≡ b → at_bytes n p ≡ cond b w (at_bytes m p)
    go true e = ap (at_bytes n) (sym ((bytes_eq-Decides a p).0 e)) ∙ h.1
    go false e = others_stay _ _ _ _ h.3 _ (λ x y. (eq_by_cmp_equiv nat_list_cmp_total).congr p x.items y.items) (λ k. apart a p k.items e)

-- a list changes at a prefix of one length
pub written_prefix : (prefix : Key) (m n : Prefixes) (w : Option (Vec ℕ)) (f : List ℕ → List ℕ) → UpdatesBy vec_cmp (λ (k : Vec ℕ). slice_cmp nat_cmp prefix k.items) m n w → items_of w ≡ f (at_prefix m prefix)
    → (p : Key) → at_prefix n p ≡ cond (bytes_eq prefix p) (f (at_prefix m p)) (at_prefix m p)
written_prefix prefix m n w f u h p = ap items_of (bytes_updated prefix m n w u p) ∙ go (bytes_eq prefix p) refl
  where
    go : (b : Bool) → bytes_eq prefix p ≡ b → items_of (cond b w (at_bytes m p)) ≡ cond b (f (at_prefix m p)) (at_prefix m p)
    go true e = h ∙ ap (λ q. f (at_prefix m q)) ((bytes_eq-Decides prefix p).0 e)
    go false e = refl

pub same_both : (b : Bool) (xs : List ℕ) → cond b xs xs ≡ xs
same_both true xs = refl
same_both false xs = refl

-- a list that is empty goes
pub goes_empty : (prefix : Key) (m now n : Prefixes) (list : Vec ℕ) (f : List ℕ → List ℕ) → UpdatesBy vec_cmp (λ (k : Vec ℕ). slice_cmp nat_cmp prefix k.items) m now (Some list) → UpdatesBy vec_cmp (λ (k : Vec ℕ). slice_cmp nat_cmp prefix k.items) now n None
    → list.items ≡ f (at_prefix m prefix) → list.items ≡ [] → (p : Key) → at_prefix n p ≡ cond (bytes_eq prefix p) (f (at_prefix m p)) (at_prefix m p)
goes_empty prefix m now n list f u v h none p = written_prefix prefix now n None (λ l. l) v (sym (ap items_of u.1 ∙ none)) p ∙ same_both (bytes_eq prefix p) (at_prefix now p) ∙ written_prefix prefix m now (Some list) f u h p

-- a list of one number is put where none was
pub put_first : (prefix : Key) (m same n : Prefixes) (own : Key) (list : Vec ℕ) (number : ℕ) → same ≡ m → own ≡ prefix → UpdatesBy vec_cmp (λ (k : Vec ℕ). slice_cmp nat_cmp own k.items) same n (Some list) → None ≡ at_bytes m prefix → list.items ≡ number ∷ []
    → (p : Key) → at_prefix n p ≡ cond (bytes_eq prefix p) (at_prefix m p ++ number ∷ []) (at_prefix m p)
put_first prefix m same n own list number is mine u none one =
    written_prefix prefix m n (Some list) (λ l. l ++ number ∷ [])
    (subst (λ k. UpdatesBy vec_cmp (λ (x : Vec ℕ). slice_cmp nat_cmp k x.items) m n (Some list)) mine (subst (λ (z : Prefixes). UpdatesBy vec_cmp (λ (x : Vec ℕ). slice_cmp nat_cmp own x.items) z n (Some list)) is u))
    (one ∙ ap (λ o. items_of o ++ number ∷ []) none)
