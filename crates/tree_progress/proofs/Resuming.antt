-- A call in flight that is alone from some moment on: each step reads on or repairs, and a number falls with each of them.
use Rattle.std.proofs.Common.{◌≡◌, ℕ, suc, ◌+◌, ◌*◌, ◌≤◌, ◌<◌, Bool, Option, Some, sym, refl, ap, ◌∙◌, subst, inl, inr, ◌⊎◌, arith, le_refl}
use Rattle.std.proofs.Math.Nat.{suc-mul, mul_comm, mul-le-mul_left}
use Rattle.sled_nodes.specs.Node.{count, after_link}
use Rattle.sled_nodes.specs.declared.link.Link.TheVariants.{ParentMergeIntention}
use Rattle.sled_store.specs.State.{State, nodes_of, PageBecomes}
use Rattle.sled_store.specs.Store.{Store, now}
use Rattle.sled_store.specs.theory.Facts.{now_acts}
use Rattle.sled_model.specs.State.{IsOnKey}
use Rattle.tree_laws.specs.Forest.{Tree, Forest}
use Rattle.tree_laws.specs.Paths.{tree_pages}
use Rattle.tree_laws.specs.Snapshot.{HasForest, IsAtVersion, snapshot_of}
use Rattle.tree_laws.specs.Stages.{IsIntending}
use Rattle.tree_laws.specs.declared.flight.Merge.{Merge}
use Rattle.tree_laws.specs.declared.flight.Stage.{Stage}
use Rattle.tree_laws.specs.declared.flight.Stage.TheVariants as stage
use Rattle.sled_tree.specs.Course.{Course}
use Rattle.sled_tree.specs.Follows.{OrRefused, follows_intend}
use Rattle.sled_tree.specs.Stages.{Knows}
use Rattle.sled_tree.specs.declared.flight.Sequel.TheVariants.{Go, Refused}
use Rattle.tree_progress.specs.Alone.{GoesOnAlone, MovesAlone, Begins, Moves, resumed_steps, ResumedLaw}
use Rattle.tree_progress.specs.Laws.{Intends}
use Rattle.tree_progress.specs.Steps.{HasHalves}
use Rattle.tree_progress.specs.ToDo.{to_do}
use Rattle.tree_progress.specs.Weights.{weight}
use Rattle.tree_progress.proofs.Alone.{fewer_ahead, less_left}
use Rattle.tree_progress.proofs.Drifting.{IsOnWay, is_calm, next_is_calm, adrift_any, drift}
use Rattle.tree_progress.proofs.Halves.{halves_law}
use Rattle.tree_progress.proofs.Intending.{intend_lowers}
use Rattle.tree_progress.proofs.Landing.{aims_low, lands}

record IsOn (numbers : Tree → Option ℕ) (given : ℕ → Bool) (s : Store) (j : Course) (a : Stage) (n : ℕ) (w : Forest) : Type 0 where
  formed : HasForest (snapshot_of s numbers given) w
  named : numbers j.tree.name ≡ Some j.tree.number
  knows : Knows (snapshot_of s numbers given) w j a
  halves : HasHalves (nodes_of (now s)) a
  on : IsOnWay (snapshot_of s numbers given) w j n a
  on_key : IsOnKey j.call

-- fewer steps are ahead, or less is left to repair
abbrev Falls : Store → Store → Tree → ℕ → ℕ → Type 0
Falls old new t n ahead = ((to_do (now new) t ≡ to_do (now old) t) × (tree_pages (now new) t ≡ tree_pages (now old) t) × (ahead < n))
    ⊎ ((to_do (now new) t + 1 ≤ to_do (now old) t) × (tree_pages (now new) t ≤ tree_pages (now old) t + 1) × (ahead < 4 * tree_pages (now new) t + 9))

module _ (numbers : Tree → Option ℕ) (given : ℕ → Bool) (j : Course) where
  abbrev t : Tree
  t = j.tree.name

  -- what a call is at after a step
  is_on : {old new : Store} {a b : Stage} {w v : Forest} (ahead : ℕ) → numbers t ≡ Some j.tree.number → IsOnKey j.call → GoesOnAlone numbers given j old a w new b v → IsOnWay (snapshot_of new numbers given) v j ahead b → IsOn numbers given new j b ahead v
  is_on {old} {new} {a} {b} ahead named on_key l on = record { formed = l.formed; named = named; knows = l.knows; halves = halves_law.steps j old new a (Go b) l.follows; on = on; on_key = on_key }

  -- any stage but two
  any : {old new : Store} {a b : Stage} {w v : Forest} (ahead : ℕ) → numbers t ≡ Some j.tree.number → IsOnKey j.call → GoesOnAlone numbers given j old a w new b v → is_calm b → 4 * tree_pages (now new) t + 8 ≤ ahead → IsOn numbers given new j b ahead v
  any {old} {new} {a} {b} ahead named on_key l calm room =
      let r = l.formed.rooted t j.tree.number named in
      is_on ahead named on_key l (adrift_any l.formed j j.tree.number r.0 named r.1 ahead (omega (arith, room)) b calm)

  step : (old new : Store) (a b : Stage) (n : ℕ) (w v : Forest) → IsOn numbers given old j a n w → GoesOnAlone numbers given j old a w new b v → (ahead : ℕ) × IsOn numbers given new j b ahead v × Falls old new t n ahead
  step old new a b n w v k l = elim k.on [
    | inl fresh ↦ elim (lands j old new numbers given w v k.formed l.formed l.stays j.tree.number k.named n a (Go b) (λ e. aims_low j k.on_key k.knows.2) k.knows.0 k.knows.1 k.halves fresh l.follows.is) [
      | inl over ↦ absurd over
      | inr y ↦ elim y [
        | inl z ↦ (z.2.0, is_on z.2.0 k.named k.on_key l (inl z.2.2), inl (z.0, z.1, z.2.1))
        | inr z ↦ (z.2.0, is_on z.2.0 k.named k.on_key l (inl z.2.2), inr (z.0, z.1, more z.2.0 _ z.2.1))
      ]
    ]
    | inr adrift ↦ elim (drift j old new numbers given w v k.formed l.formed j.tree.number k.named n a (Go b) k.knows.0 k.halves adrift l.follows.is) [
      | inl over ↦ absurd over
      | inr y ↦ elim y [
        | inl z ↦ (z.2.0, is_on z.2.0 k.named k.on_key l z.2.2, inl (z.0, z.1, z.2.1))
        | inr z ↦ (4 * tree_pages (now new) t + 8, any _ k.named k.on_key l z.2 (le_refl _), inr (z.0, z.1, under _))
      ]
    ]
  ]
    where
      more : (x p : ℕ) → x < 2 * p + 4 → x < 4 * p + 9
      more x p l = omega arith

      under : (p : ℕ) → 4 * p + 8 < 4 * p + 9
      under p = omega arith

  -- the first step, from whatever stage
  abbrev Starts : Store → Store → Stage → Forest → Type 0
  Starts old new b v = (ahead : ℕ) × IsOn numbers given new j b ahead v × (to_do (now new) t ≤ to_do (now old) t + 15) × (tree_pages (now new) t ≤ tree_pages (now old) t + 1) × (ahead < 4 * tree_pages (now new) t + 9)

  few_more : (x y : ℕ) → x ≡ y → x ≤ y + 1
  few_more x y e = omega arith

  starts_calm : (old new : Store) (a b : Stage) (w v : Forest) → HasForest (snapshot_of old numbers given) w → numbers t ≡ Some j.tree.number → IsOnKey j.call → Knows (snapshot_of old numbers given) w j a → HasHalves (nodes_of (now old)) a → is_calm a → GoesOnAlone numbers given j old a w new b v → Starts old new b v
  starts_calm old new a b w v formed named on_key knows halves calm l =
      let r = formed.rooted t j.tree.number named in
      let k : IsOn numbers given old j a (4 * tree_pages (now old) t + 8) w = record { formed = formed; named = named; knows = knows; halves = halves; on = adrift_any formed j j.tree.number r.0 named r.1 _ (eight _) a calm; on_key = on_key } in
      let x = step old new a b (4 * tree_pages (now old) t + 8) w v k l in
      elim x.2 [
        | inl z ↦ (x.0, x.1, few _ _ z.0, few_more _ _ z.1, less x.0 _ _ z.1 z.2)
        | inr z ↦ (x.0, x.1, fewer _ _ z.0, z.1, z.2)
      ]
    where
      eight : (p : ℕ) → (2 * p + 2) + 2 * p + 6 ≤ 4 * p + 8
      eight p = omega arith

      few : (x y : ℕ) → x ≡ y → x ≤ y + 15
      few x y e = omega arith

      fewer : (x y : ℕ) → x + 1 ≤ y → x ≤ y + 15
      fewer x y e = omega arith

      less : (x p q : ℕ) → p ≡ q → x < 4 * q + 8 → x < 4 * p + 9
      less x p q e l = omega arith

  starts_merge : (old new : Store) (a : Merge) (b : Stage) (w v : Forest) → HasForest (snapshot_of old numbers given) w → numbers t ≡ Some j.tree.number → IsOnKey j.call → IsIntending (snapshot_of old numbers given) w t j.tree.number a → GoesOnAlone numbers given j old (stage.Intend a) w new b v
      → OrRefused old new (Go b) (follows_intend old new a (Go b)) → Starts old new b v
  starts_merge old new a b w v formed named on_key k l (inr x) = absurd (no x.1)
    where
      no : Go b ≡ Refused x.0 → ⊥
      no e = cc
  starts_merge old new a b w v formed named on_key k l (inl (inr x)) =
      let pages = ap (λ (s : Store). tree_pages (now s) t) x.1.is.0 in (
        4 * tree_pages (now new) t + 8,
        any _ named on_key l (subst next_is_calm (sym x.2) tt) (le_refl _),
        few _ _ (ap (λ (s : Store). to_do (now s) t) x.1.is.0),
        few_more _ _ pages,
        under _,
      )
    where
      few : (x y : ℕ) → x ≡ y → x ≤ y + 15
      few x y e = omega arith

      under : (p : ℕ) → 4 * p + 8 < 4 * p + 9
      under p = omega arith
  starts_merge old new a b w v formed named on_key k l (inl (inl x)) =
      let node = x.1.is.0 in
      let page = x.1.is.1 in
      let at : IsAtVersion (snapshot_of old numbers given) a.parent = record { page = record { version = a.parent.version; node = node }; live = page; same = refl } in
      let u = k.under named at in
      let here : Intends (now old) (now new) t (count u.node.content) = subst (λ (z : State). Intends (now old) z t (count u.node.content)) (sym (now_acts (PageBecomes a.parent.pid (Some (record { version = x.0; node = after_link (ParentMergeIntention a.child) node }))) x.0 old new x.1.is.2))
      (intend_lowers (snapshot_of old numbers given) w t j.tree.number a node u.node x.0 formed named k page u.live) in (
        4 * tree_pages (now new) t + 8,
        any _ named on_key l (subst next_is_calm (sym x.2) tt) (le_refl _),
        grown (count u.node.content) _ _ (k.small named at u.node u.live) here.here,
        here.pages,
        under _,
      )
    where
      grown : (n x y : ℕ) → n ≤ 17 → x + weight n ≤ y + (n + 5) → x ≤ y + 15
      grown n x y l u = omega arith

      under : (p : ℕ) → 4 * p + 8 < 4 * p + 9
      under p = omega arith

  starts : (old new : Store) (a b : Stage) (w v : Forest) → HasForest (snapshot_of old numbers given) w → numbers t ≡ Some j.tree.number → IsOnKey j.call → Knows (snapshot_of old numbers given) w j a → HasHalves (nodes_of (now old)) a → GoesOnAlone numbers given j old a w new b v → Starts old new b v
  starts old new (stage.Intend a) b w v formed named on_key knows halves l = starts_merge old new a b w v formed named on_key knows.0 l l.follows.is
  starts old new (stage.Give a) b w v formed named on_key knows halves l = absurd l.follows.is
  starts old new other b w v formed named on_key knows halves l = starts_calm old new other b w v formed named on_key knows halves tt l

  module _ (s : Store) where
    abbrev most : ℕ
    most = tree_pages (now s) t + to_do (now s) t + 16

    -- so many steps were done, and so many are ahead at most
    record IsResumed (b : Store) (a : Stage) (i : ℕ) (w : Forest) : Type 0 where
      ahead : ℕ
      on : IsOn numbers given b j a ahead w
      few : tree_pages (now b) t + to_do (now b) t ≤ most
      falls : i + to_do (now b) t * (4 * most + 9) + ahead ≤ (to_do (now s) t + 15) * (4 * most + 9) + (4 * most + 9)

    resumed_first : (b : Store) (a : Stage) (v : Forest) → Starts s b a v → IsResumed b a 1 v
    resumed_first b a v x = record { ahead = x.0; on = x.1; few = few _ _ _ _ x.2 x.3; falls = all _ _ _ _ x.0 (few _ _ _ _ x.2 x.3) x.2 x.4 }
      where
        few : (d e p q : ℕ) → d ≤ e + 15 → p ≤ q + 1 → p + d ≤ q + e + 16
        few d e p q l u = omega arith

        all : (d e p q x : ℕ) → p + d ≤ q + e + 16 → d ≤ e + 15 → x < 4 * p + 9 → 1 + d * (4 * (q + e + 16) + 9) + x ≤ (e + 15) * (4 * (q + e + 16) + 9) + (4 * (q + e + 16) + 9)
        all d e p q x f l u =
            let k : ℕ = 4 * (q + e + 16) + 9 in
            let rises : d * k ≤ (e + 15) * k = subst (λ z. z ≤ (e + 15) * k) (mul_comm k d) (subst (λ z. k * d ≤ z) (mul_comm k (e + 15)) (mul-le-mul_left k l)) in
            sum (d * k) ((e + 15) * k) rises
          where
            sum : (a b : ℕ) → a ≤ b → 1 + a + x ≤ b + (4 * (q + e + 16) + 9)
            sum a b l = omega (arith, f, u)

    resumed_next : (b c : Store) (was is : Stage) (i : ℕ) (w v : Forest) → IsResumed b was i w → GoesOnAlone numbers given j b was w c is v → IsResumed c is (suc i) v
    resumed_next b c was is i w v r l =
        let x = step b c was is r.ahead w v r.on l in
        elim x.2 [
          | inl z ↦ record { ahead = x.0; on = x.1; few = kept _ _ _ _ _ z.0 z.1 r.few; falls = fewer_ahead i _ r.ahead (4 * most + 9) _ x.0 _ z.0 z.2 r.falls }
          | inr z ↦ record { ahead = x.0; on = x.1; few = one_more _ _ _ _ _ z.0 z.1 r.few; falls = less_left i _ r.ahead (4 * most + 9) _ x.0 _ z.0 (within x.0 _ _ _ (one_more _ _ _ _ _ z.0 z.1 r.few) z.2) r.falls }
        ]
      where
        kept : (x y u v t : ℕ) → x ≡ y → u ≡ v → v + y ≤ t → u + x ≤ t
        kept x y u v t e e' l = omega arith

        one_more : (x y u v t : ℕ) → x + 1 ≤ y → u ≤ v + 1 → v + y ≤ t → u + x ≤ t
        one_more x y u v t e e' l = omega arith

        within : (q p x t : ℕ) → p + x ≤ t → q < 4 * p + 9 → q < 4 * t + 9
        within q p x t l u = omega arith

    resumed : (first : Stage) (w : Forest) → HasForest (snapshot_of s numbers given) w → numbers t ≡ Some j.tree.number → IsOnKey j.call → Knows (snapshot_of s numbers given) w j first → HasHalves (nodes_of (now s)) first
        → (n : ℕ) (b : Store) (a : Stage) (v : Forest) → MovesAlone numbers given j s first w n b a v → (n ≡ 0) ⊎ IsResumed b a n v
    resumed first w formed named on_key knows halves n b a v Begins = inl refl
    resumed first w formed named on_key knows halves n c e v (Moves Begins step) = inr (resumed_first c e v (starts s c first e w v formed named on_key knows halves step))
    resumed first w formed named on_key knows halves n c e v (Moves {n = k} {b = b} {a = a} {u = u} (Moves before last) step) = elim (resumed first w formed named on_key knows halves k b a u (Moves before last)) [
      | inl none ↦ absurd (some none)
      | inr r ↦ inr (resumed_next b c a e k u v r step)
    ]
      where
        some : {x : ℕ} → suc x ≡ 0 → ⊥
        some e = omega arith

pub resumed_law : ResumedLaw
resumed_law numbers given j s first w formed named on_key knows halves n b a v m = elim (resumed numbers given j s first w formed named on_key knows halves n b a v m) [
  | inl none ↦ subst (λ z. z ≤ resumed_steps (now s) j.tree.name) (sym none) (least _)
  | inr r ↦ within (to_do (now s) j.tree.name) (tree_pages (now s) j.tree.name) _ r.ahead r.falls
]
  where
    least : (x : ℕ) → 0 ≤ x
    least x = omega arith

    within : (x p y ahead : ℕ) → n + y + ahead ≤ (x + 15) * (4 * (p + x + 16) + 9) + (4 * (p + x + 16) + 9) → n ≤ (x + 16) * (4 * (p + x + 16) + 9)
    within x p y ahead l = all _ _ _ (ap (λ z. z * (4 * (p + x + 16) + 9)) one ∙ suc-mul (x + 15) (4 * (p + x + 16) + 9)) l
      where
        one : x + 16 ≡ suc (x + 15)
        one = omega arith

        all : (a b k : ℕ) → b ≡ a + k → n + y + ahead ≤ a + k → n ≤ b
        all a b k e l = omega arith
