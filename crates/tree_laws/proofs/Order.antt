-- Keys in order.
use Rattle.std.proofs.Common.{◌≡◌, ◌∙◌, [], ◌∷◌, Bool, not, true, false, sym, refl, ap, subst, inl, inr, ◌⊎◌, Less, Equal, Greater, is_gt}
use Rattle.std.specs.Ordering.{is_lt, ordering_reverse}
use Rattle.std.specs.declared.cmp.Ordering.{Ordering}
use Rattle.std.specs.declared.ops.Bound.{Bound}
use Rattle.std.specs.declared.ops.Bound.TheVariants.{Included, Excluded, Unbounded}
use Rattle.std.proofs.lemmas.Cmp.{upto, tied_itself}
use Rattle.sled_nodes.proofs.Basics.{key_total, key_same, true_false, not_true, is_less}
use Rattle.sled_nodes.specs.Order.{Key, key_cmp, Below, UpTo}
use Rattle.sled_nodes.specs.Among.{is_up_to}
use Rattle.sled_nodes.specs.Node.{Covers}
use Rattle.sled_nodes.specs.declared.node.Node.{Node}
use Rattle.tree_laws.specs.Snapshot.{LiesUnder}

pub below-trans : (a b c : Key) → Below a b → Below b c → Below a c
below-trans a b c p q = key_total.trans a b c p q

pub upto-trans : (a b c : Key) → UpTo a b → UpTo b c → UpTo a c
upto-trans a b c p q = upto key_total a b c p q

pub upto-refl : (a : Key) → UpTo a a
upto-refl a = ap is_gt (tied_itself key_total a)

pub upto-below : (a b : Key) → Below a b → UpTo a b
upto-below a b p = ap is_gt p

pub upto_cases : (a b : Key) → UpTo a b → Below a b ⊎ (a ≡ b)
upto_cases a b =
    elim (key_cmp a b) as (λ o. key_cmp a b ≡ o → is_gt o ≡ false → Below a b ⊎ (a ≡ b)) [
      | Less ↦ λ e h. inl e
      | Equal ↦ λ e h. inr (key_same a b e)
      | Greater ↦ λ e h. cc
    ] refl

pub below_upto-trans : (a b c : Key) → Below a b → UpTo b c → Below a c
below_upto-trans a b c p q = elim (upto_cases b c q) [ inl h ↦ below-trans a b c p h | inr e ↦ subst (λ k. Below a k) e p ]

pub upto_below-trans : (a b c : Key) → UpTo a b → Below b c → Below a c
upto_below-trans a b c p q = elim (upto_cases a b p) [ inl h ↦ below-trans a b c h q | inr e ↦ subst (λ k. Below k c) (sym e) q ]

pub below_irrefl : (a : Key) → Below a a → ⊥
below_irrefl a p = let e = tied_itself key_total a in cc

-- what is below is not at or above
pub below_not_upto : (a b : Key) → Below a b → UpTo b a → ⊥
below_not_upto a b p q = below_irrefl a (below_upto-trans a b a p q)

-- what is not within a key's bound stands behind the key
pub behind_key : (k key : Key) → is_up_to (Included key) k ≡ false → Below key k
behind_key k key e = key_total.antisymm key k ∙ below (key_cmp k key) e
  where
    below : (o : Ordering) → not (is_gt o) ≡ false → ordering_reverse o ≡ Less
    below Less e = cc
    below Equal e = cc
    below Greater e = refl

pub up_to_key : (k key : Key) → is_up_to (Included key) k ≡ true → UpTo k key
up_to_key k key e = not_true (is_gt (key_cmp k key)) e

-- what is within an upper bound stands before what is not
pub within_below : (aim : Bound Key) (a b : Key) → is_up_to aim a ≡ true → is_up_to aim b ≡ false → Below a b
within_below (Included k) a b p q = upto_below-trans a k b (up_to_key a k p) (behind_key b k q)
within_below (Excluded k) a b p q = below_upto-trans a k b (is_less (key_cmp a k) p) (go (key_cmp b k) q (key_total.antisymm k b))
  where
    go : (o : Ordering) → is_lt o ≡ false → key_cmp k b ≡ ordering_reverse o → is_gt (key_cmp k b) ≡ false
    go Less e r = cc
    go Equal e r = ap is_gt r
    go Greater e r = ap is_gt r
within_below Unbounded a b p q = true_false q

-- at a key, what lies under the aim is what covers the key
pub covers_under : (key : Key) (n : Node) → Covers n key → LiesUnder (Included key) n
covers_under key n (low, high) = (
  ap not low,
  elim high [
    | inl e ↦ inl e
    | inr b ↦ inr (above (key_cmp n.hi key) (key_total.antisymm n.hi key ∙ ap ordering_reverse b))
  ],
)
  where
    above : (o : Ordering) → o ≡ Greater → not (is_gt o) ≡ false
    above o e = ap (λ z. not (is_gt z)) e

pub under_covers : (key : Key) (n : Node) → LiesUnder (Included key) n → Covers n key
under_covers key n (low, high) = (up_to_key n.lo key low, elim high [ inl e ↦ inl e | inr b ↦ inr (behind_key n.hi key b) ])

-- the empty key is the least
pub least : (k : Key) → UpTo [] k
unfolding key_cmp
least [] = refl
least (x ∷ k) = refl

-- what is beyond an upper bound, and all that is from there on
pub beyond : (hi : Bound Key) (a b : Key) → UpTo a b → is_up_to hi a ≡ false → is_up_to hi b ≡ false
beyond hi a b u off = go (is_up_to hi b) refl
  where
    go : (x : Bool) → is_up_to hi b ≡ x → is_up_to hi b ≡ false
    go true e = absurd (below_not_upto b a (within_below hi b a e off) u)
    go false e = e
