-- Steps of several calls in a row are counted.
use Rattle.std.proofs.Common.{◌≡◌, ℕ, suc, ◌+◌, ◌*◌, ◌<◌, ◌≤◌, Bool, false, cond, nat_eq, sum_by, List, [], ◌∷◌, ◌++◌, Option, Some, None, option_map, sym, refl, ap, ◌∙◌, subst, inl, inr, ◌⊎◌, arith, le_refl, le_trans}
use Rattle.std.proofs.lemmas.List.Sums.{sum_by-cons}
use Rattle.std.proofs.Math.Nat.{suc-mul, mul_comm, mul-le-mul_left}
use Rattle.sled_nodes.proofs.Basics.{some_is, none_some, true_false, same_or_not}
use Rattle.sled_nodes.specs.Ranges.{Range}
use Rattle.sled_store.specs.In.{In}
use Rattle.sled_store.specs.State.{State, nodes_of}
use Rattle.sled_store.specs.Store.{Store, now}
use Rattle.sled_store.specs.declared.page.Page.{Page}
use Rattle.sled_model.specs.State.{range_of}
use Rattle.sled_model.specs.declared.tree.Tree.{Tree as NamedTree}
use Rattle.tree_laws.specs.Forest.{Tree, Forest}
use Rattle.tree_laws.specs.Paths.{tree_pages}
use Rattle.tree_laws.specs.Snapshot.{Snapshot, snapshot_of, HasForest}
use Rattle.tree_laws.specs.declared.flight.Stage.{Stage}
use Rattle.tree_laws.specs.declared.flight.Stage.TheVariants as stage
use Rattle.sled_tree.specs.Course.{Course, IsAimed}
use Rattle.sled_tree.specs.Stages.{Knows}
use Rattle.sled_tree.specs.declared.flight.Sequel.TheVariants.{Go}
use Rattle.tree_progress.specs.Steps.{HasHalves}
use Rattle.tree_progress.specs.ToDo.{to_do}
use Rattle.tree_progress.proofs.Alone.{less_left}
use Rattle.tree_progress.proofs.Halves.{halves_law}
use Rattle.move_laws.specs.Among.{IsUnderWay, GoesOnAmong, bound_behind, SetsOut, MovesAmong, Begins, Moves, Turns, AmongLaw, LeftLaw}
use Rattle.move_laws.specs.Meant.{Flight, flight, meant_by, sum_once, grown, repairs_left, all_left, between, moves_bound}
use Rattle.move_laws.proofs.Falling.{still_all, repairs_all, takes_all}
use Rattle.move_laws.proofs.Deeds.{Changes}
use Rattle.move_laws.proofs.Lists.{middle, others_in, one_of, sum_less, sum_falls, sum_below, gathers_same}
use Rattle.move_laws.proofs.Scanning.{is_moving_as, IsMoving, most_ahead, times, sets_out, moving_any, still_moves, moving_steps}
use Rattle.move_laws.proofs.Stepping.{IsStill}

-- the steps that a call has at any stage
abbrev most_of : State → Flight → ℕ
most_of s f = most_ahead (range_of f.course.call) (tree_pages s f.course.tree.name)

-- .. are fewer than those between two repairs
fewer_between : (o : Option Range) (p x : ℕ) → p ≤ x → most_ahead o p + 1 ≤ between o x
fewer_between None p x l = omega (arith, l)
fewer_between (Some range) p x l = sum (p * (2 * p + 3)) (x * (2 * x + 3)) (le_trans (times (2 * p + 3) p x l) (subst (λ z. z ≤ x * (2 * x + 3)) (mul_comm (2 * p + 3) x) (subst (λ z. (2 * p + 3) * x ≤ z) (mul_comm (2 * x + 3) x) (times x (2 * p + 3) (2 * x + 3) (omega (arith, l))))))
  where
    sum : (a b : ℕ) → a ≤ b → (a + (4 * p + 8)) + 1 ≤ b + (4 * x + 9)
    sum a b u = omega (arith, l)

-- each call has so many steps, and all together that many
abbrev AreGoing : Snapshot → Forest → List Flight → ℕ → Type 0
AreGoing m w [] total = total ≡ 0
AreGoing m w (f ∷ fs) total = (n : ℕ) × (rest : ℕ) × IsMoving m w f n × AreGoing m w fs rest × (total ≡ n + rest)

pick : (m : Snapshot) (w : Forest) (xs ys : List Flight) (x : Flight) (total : ℕ) → AreGoing m w (xs ++ x ∷ ys) total → (n : ℕ) × (rest : ℕ) × IsMoving m w x n × AreGoing m w (xs ++ ys) rest × (total ≡ n + rest)
pick m w [] ys x total k = k
pick m w (z ∷ xs) ys x total k =
    let a = pick m w xs ys x k.1 k.3 in
    (a.0, k.0 + a.1, a.2, (k.0, a.1, k.2, a.3, refl), sum _ _ _ _ k.4 a.4)
  where
    sum : (n r a b : ℕ) → total ≡ n + r → r ≡ a + b → total ≡ a + (n + b)
    sum n r a b e g = omega arith

lay : (m : Snapshot) (w : Forest) (xs ys : List Flight) (y : Flight) (n rest : ℕ) → IsMoving m w y n → AreGoing m w (xs ++ ys) rest → (total : ℕ) × AreGoing m w (xs ++ y ∷ ys) total × (total ≡ n + rest)
lay m w [] ys y n rest k l = (n + rest, (n, rest, k, l, refl), refl)
lay m w (z ∷ xs) ys y n rest k l =
    let a = lay m w xs ys y n l.1 k l.3 in
    (l.0 + a.0, (l.0, a.0, l.2, a.1, refl), sum _ _ _ l.4 a.2)
  where
    sum : (a b c : ℕ) → rest ≡ a + b → c ≡ n + b → a + c ≡ n + rest
    sum a b c e g = omega arith

keep : (m m' : Snapshot) (w v : Forest) (fs : List Flight) (total : ℕ) → ((f : Flight) → In f fs → (n : ℕ) → IsMoving m w f n → IsMoving m' v f n) → AreGoing m w fs total → AreGoing m' v fs total
keep m m' w v [] total law k = k
keep m m' w v (f ∷ fs) total law k = (k.0, k.1, law f (inl refl) k.0 k.2, keep m m' w v fs k.1 (λ g i. law g (inr i)) k.3, k.4)

-- whatever their stages are
all_any : (numbers : Tree → Option ℕ) (given : ℕ → Bool) (s : Store) (w : Forest) → HasForest (snapshot_of s numbers given) w → (fs : List Flight) → ((f : Flight) → In f fs → IsUnderWay numbers given s w f)
    → AreGoing (snapshot_of s numbers given) w fs (sum_by (most_of (now s)) fs)
all_any numbers given s w is [] under = refl
all_any numbers given s w is (f ∷ fs) under = (
  most_of (now s) f,
  sum_by (most_of (now s)) fs,
  moving_any numbers given s w is f (under f (inl refl)),
  all_any numbers given s w is fs (λ g i. under g (inr i)),
  sum_by-cons (most_of (now s)) f fs,
)

-- a split that another call has begun has its halves still: its new page has its version, and versions are given once
halves_kept : (numbers : Tree → Option ℕ) (given : ℕ → Bool) (old new : Store) (w v : Forest) → HasForest (snapshot_of old numbers given) w → ((p : ℕ) (g : Page) → (now new).pages p ≡ Some g → ((now old).pages p ≡ Some g) ⊎ (old.versions g.version ≡ false))
    → (j : Course) (a : Stage) → Knows (snapshot_of old numbers given) w j a → Knows (snapshot_of new numbers given) v j a → HasHalves (nodes_of (now old)) a → HasHalves (nodes_of (now new)) a
halves_kept numbers given old new w v is fresh j (stage.InstallLeft a) k l h = (h.0, h.1, ap (option_map (λ (g : Page). g.node)) same ∙ h.2)
  where
    same : (now new).pages a.right ≡ (now old).pages a.right
    same = elim (fresh a.right _ l.0.own.live) [
      | inl was ↦ l.0.own.live ∙ sym was
      | inr never ↦ true_false (sym (is.versions a.right _ k.0.own.live) ∙ never)
    ]
halves_kept numbers given old new w v is fresh j other k l h = tt

module _ (numbers : Tree → Option ℕ) (given : ℕ → Bool) (s : Store) (first : List Flight) where
  abbrev most : ℕ
  most = all_left (now s) first

  abbrev width : Flight → ℕ
  width f = between (range_of f.course.call) (tree_pages (now s) f.course.tree.name + most)

  abbrev wide : ℕ
  wide = sum_by width first

  -- so many steps went on since the first moment
  record IsRunning (b : Store) (fs : List Flight) (w : Forest) (i : ℕ) : Type 0 where
    formed : HasForest (snapshot_of b numbers given) w
    under : (f : Flight) → In f fs → IsUnderWay numbers given b w f
    ahead : ℕ
    going : AreGoing (snapshot_of b numbers given) w fs ahead
    few : (f : Flight) → In f fs → tree_pages (now b) f.course.tree.name + all_left (now b) fs ≤ tree_pages (now s) f.course.tree.name + most
    same : sum_by width fs ≤ wide
    falls : i + all_left (now b) fs * wide + ahead ≤ most * wide + wide

  start : (w : Forest) → HasForest (snapshot_of s numbers given) w → ((f : Flight) → In f first → IsUnderWay numbers given s w f) → IsRunning s first w 0
  start w is under = record {
    formed = is;
    under = under;
    ahead = sum_by (most_of (now s)) first;
    going = all_any numbers given s w is first under;
    few = λ f i. le_refl _;
    same = le_refl _;
    falls = sum _ _ _ (narrow first);
  }
    where
      sum : (x y z : ℕ) → y ≤ z → 0 + x + y ≤ x + z
      sum x y z l = omega arith

      weaker : (x y : ℕ) → x + 1 ≤ y → x ≤ y
      weaker x y l = omega arith

      up : (p : ℕ) → p ≤ p + most
      up p = omega arith

      narrow : (fs : List Flight) → sum_by (most_of (now s)) fs ≤ sum_by width fs
      narrow fs = sum_less (most_of (now s)) width fs (λ f i. weaker _ _ (fewer_between (range_of f.course.call) _ _ (up (tree_pages (now s) f.course.tree.name))))

  module _ (old new : Store) (fs gs : List Flight) (w v : Forest) (i : ℕ) (r : IsRunning old fs w i) (l : GoesOnAmong numbers given old fs w new gs v) where
    abbrev m : Snapshot
    m = snapshot_of old numbers given

    abbrev m' : Snapshot
    m' = snapshot_of new numbers given

    under_was : (f : Flight) → In f (l.before ++ flight l.course l.was ∷ l.behind) → IsUnderWay numbers given old w f
    under_was f k = r.under f (subst (λ z. In f z) (sym l.from) k)

    own : IsUnderWay numbers given old w (flight l.course l.was)
    own = under_was (flight l.course l.was) (middle l.before l.behind (flight l.course l.was))

    others : (f : Flight) → In f (l.before ++ l.behind) → IsUnderWay numbers given old w f
    others f k = under_was f (others_in l.before l.behind (flight l.course l.was) f k)

    abbrev Fresh : Type 0
    Fresh = (p : ℕ) (g : Page) → (now new).pages p ≡ Some g → ((now old).pages p ≡ Some g) ⊎ (old.versions g.version ≡ false)

    under_now : Fresh → (f : Flight) → In f (l.before ++ flight l.course l.is ∷ l.behind) → IsUnderWay numbers given new v f
    under_now fresh f k = elim (one_of l.before l.behind (flight l.course l.is) f k) [
      | inl e ↦ subst (λ z. IsUnderWay numbers given new v z) (sym e) (record { named = own.named; knows = l.goes.knows; halves = halves_law.steps l.course old new l.was (Go l.is) l.goes.follows })
      | inr o ↦ let u = others f o in record { named = u.named; knows = l.others f o; halves = halves_kept numbers given old new w v r.formed fresh f.course f.stage u.knows (l.others f o) u.halves }
    ]

    same_width : sum_by width (l.before ++ flight l.course l.is ∷ l.behind) ≤ wide
    same_width = plain _ _ _ (sum_falls width width l.before l.behind (flight l.course l.was) (flight l.course l.is) 0 (λ f o. le_refl _) (zero _)) (subst (λ z. sum_by width z ≤ wide) l.from r.same)
      where
        plain : (x y z : ℕ) → x + 0 ≤ y → y ≤ z → x ≤ z
        plain x y z a b = omega arith

        zero : (x : ℕ) → x + 0 ≤ x
        zero x = omega arith

    few_was : (f : Flight) → In f (l.before ++ flight l.course l.was ∷ l.behind) → tree_pages (now old) f.course.tree.name + all_left (now old) (l.before ++ flight l.course l.was ∷ l.behind) ≤ tree_pages (now s) f.course.tree.name + most
    few_was f k = subst (λ z. tree_pages (now old) f.course.tree.name + all_left (now old) z ≤ tree_pages (now s) f.course.tree.name + most) l.from (r.few f (subst (λ z. In f z) (sym l.from) k))

    falls_was : i + all_left (now old) (l.before ++ flight l.course l.was ∷ l.behind) * wide + r.ahead ≤ most * wide + wide
    falls_was = subst (λ z. i + all_left (now old) z * wide + r.ahead ≤ most * wide + wide) l.from r.falls

    -- of each call now there was one with its course
    few_now : (by : ℕ) → ((u : Tree) (number : ℕ) → numbers u ≡ Some number → tree_pages (now new) u ≤ tree_pages (now old) u + by) → all_left (now new) (l.before ++ flight l.course l.is ∷ l.behind) + by ≤ all_left (now old) (l.before ++ flight l.course l.was ∷ l.behind)
        → (f : Flight) → In f (l.before ++ flight l.course l.is ∷ l.behind) → tree_pages (now new) f.course.tree.name + all_left (now new) (l.before ++ flight l.course l.is ∷ l.behind) ≤ tree_pages (now s) f.course.tree.name + most
    few_now by pages left f k = elim (one_of l.before l.behind (flight l.course l.is) f k) [
      | inl e ↦ subst (λ (z : Flight). tree_pages (now new) z.course.tree.name + all_left (now new) (l.before ++ flight l.course l.is ∷ l.behind) ≤ tree_pages (now s) z.course.tree.name + most) (sym e)
          (sum _ _ _ _ _ (pages l.course.tree.name l.course.tree.number own.named) left (few_was (flight l.course l.was) (middle l.before l.behind (flight l.course l.was))))
      | inr o ↦ sum _ _ _ _ _ (pages f.course.tree.name f.course.tree.number (others f o).named) left (few_was f (others_in l.before l.behind (flight l.course l.was) f o))
    ]
      where
        sum : (p q x y z : ℕ) → p ≤ q + by → x + by ≤ y → q + y ≤ z → p + x ≤ z
        sum p q x y z a b c = omega arith

    abbrev Now : Type 0
    Now = IsRunning new (l.before ++ flight l.course l.is ∷ l.behind) v (suc i)

    going_was : AreGoing m w (l.before ++ flight l.course l.was ∷ l.behind) r.ahead
    going_was = subst (λ z. AreGoing m w z r.ahead) l.from r.going

    stilly : (n rest : ℕ) → r.ahead ≡ n + rest → AreGoing m w (l.before ++ l.behind) rest → (x : ℕ) → IsStill numbers given old new w v l.course x l.is → (ahead : ℕ) → ahead < n → IsMoving m' v (flight l.course l.is) ahead → Now
    stilly n rest e on x k ahead fewer moving =
        let kept = keep m m' w v (l.before ++ l.behind) rest (λ f o. still_moves numbers given old new w v k f (others f o)) on in
        let all = lay m' v l.before l.behind (flight l.course l.is) ahead rest moving kept in
        let left = still_all numbers given old new w v r.formed l.course l.was l.is l.before l.behind own others k in
        record {
          formed = l.goes.formed;
          under = under_now k.fresh;
          ahead = all.0;
          going = all.1;
          few = few_now 0 (λ u number named. equal _ _ (k.pages u number named)) (zero _ _ left);
          same = same_width;
          falls = sum _ _ _ (rises _ _ left) (less _ _ _ all.2 e fewer) falls_was;
        }
      where
        equal : (x y : ℕ) → x ≡ y → x ≤ y + 0
        equal x y e = omega arith

        zero : (x y : ℕ) → x ≤ y → x + 0 ≤ y
        zero x y l = omega arith

        less : (x y n' : ℕ) → x ≡ n' + rest → y ≡ n + rest → n' < n → x < y
        less x y n' a b c = omega arith

        rises : (x y : ℕ) → x ≤ y → x * wide ≤ y * wide
        rises x y l = subst (λ z. z ≤ y * wide) (mul_comm wide x) (subst (λ z. wide * x ≤ z) (mul_comm wide y) (mul-le-mul_left wide l))

        sum : (x y ahead : ℕ) {total : ℕ} → x ≤ y → ahead < r.ahead → i + y + r.ahead ≤ total → suc i + x + ahead ≤ total
        sum x y ahead a b c = omega arith

    changing : {rise : ℕ} → Changes m m' w l.course.tree.name rise → all_left (now new) (l.before ++ flight l.course l.is ∷ l.behind) + 1 ≤ all_left (now old) (l.before ++ flight l.course l.was ∷ l.behind) → Now
    changing k left =
        let few = few_now 1 pages left in
        record {
          formed = l.goes.formed;
          under = under_now k.fresh;
          ahead = sum_by (most_of (now new)) (l.before ++ flight l.course l.is ∷ l.behind);
          going = all_any numbers given new v l.goes.formed _ (under_now k.fresh);
          few = few;
          same = same_width;
          falls = less_left i _ r.ahead wide _ _ _ left (narrow few) falls_was;
        }
      where
        one : (x y : ℕ) → x ≡ y → x ≤ y + 1
        one x y e = omega arith

        pages : (u : Tree) (number : ℕ) → numbers u ≡ Some number → tree_pages (now new) u ≤ tree_pages (now old) u + 1
        pages u number named = elim (same_or_not number l.course.tree.number) [
          | inl e ↦ subst (λ z. tree_pages (now new) z ≤ tree_pages (now old) z + 1) (sym (r.formed.apart u l.course.tree.name l.course.tree.number (named ∙ ap Some e) own.named)) k.few
          | inr off ↦ one _ _ (k.pages u number (λ e. off (some_is (sym named ∙ ap numbers e ∙ own.named))) named)
        ]

        less : (p x z : ℕ) → p + x ≤ z → p ≤ z
        less p x z l = omega arith

        strict : (x y z : ℕ) → x + 1 ≤ y → y ≤ z → x < z
        strict x y z a b = omega arith

        narrow : ((f : Flight) → In f (l.before ++ flight l.course l.is ∷ l.behind) → tree_pages (now new) f.course.tree.name + all_left (now new) (l.before ++ flight l.course l.is ∷ l.behind) ≤ tree_pages (now s) f.course.tree.name + most)
            → sum_by (most_of (now new)) (l.before ++ flight l.course l.is ∷ l.behind) < wide
        narrow few = strict _ _ _ (sum_below (most_of (now new)) width (l.before ++ flight l.course l.is ∷ l.behind) (flight l.course l.is) (middle l.before l.behind (flight l.course l.is)) (λ f k. fewer_between (range_of f.course.call) _ _ (less _ _ _ (few f k)))) same_width

    step_now : Now
    step_now =
        let a = pick m w l.before l.behind (flight l.course l.was) r.ahead going_was in
        elim (moving_steps numbers given old new w v r.formed l.goes.formed l.course a.0 l.was l.is own l.goes l.begins a.2) [
          | inl k ↦ stilly a.0 a.1 a.4 a.3 k.0 k.1 k.2 k.3 k.4
          | inr x ↦ elim x.1 [
            | inl k ↦ changing k.changes (repairs_all numbers given old new w v r.formed l.course l.was l.is l.before l.behind own others x.0 k)
            | inr k ↦ changing k.2.changes (takes_all numbers given old new w v r.formed l.course l.was l.is l.before l.behind own others x.0 k.0 k.1 k.2)
          ]
        ]

    weaker : (x y : ℕ) → x + 1 ≤ y → x ≤ y
    weaker x y u = omega arith

    left_now : all_left (now new) (l.before ++ flight l.course l.is ∷ l.behind) ≤ all_left (now old) (l.before ++ flight l.course l.was ∷ l.behind)
    left_now =
        let a = pick m w l.before l.behind (flight l.course l.was) r.ahead going_was in
        elim (moving_steps numbers given old new w v r.formed l.goes.formed l.course a.0 l.was l.is own l.goes l.begins a.2) [
          | inl k ↦ still_all numbers given old new w v r.formed l.course l.was l.is l.before l.behind own others k.1
          | inr x ↦ weaker _ _ (elim x.1 [
            | inl k ↦ repairs_all numbers given old new w v r.formed l.course l.was l.is l.before l.behind own others x.0 k
            | inr k ↦ takes_all numbers given old new w v r.formed l.course l.was l.is l.before l.behind own others x.0 k.0 k.1 k.2
          ])
        ]

    left : all_left (now new) gs ≤ all_left (now old) fs
    left = subst (λ z. all_left (now new) z ≤ all_left (now old) fs) (sym l.to) (subst (λ z. all_left (now new) (l.before ++ flight l.course l.is ∷ l.behind) ≤ all_left (now old) z) (sym l.from) left_now)

    step : IsRunning new gs v (suc i)
    step = subst (λ z. IsRunning new z v (suc i)) (sym l.to) step_now

  -- A scan sets out from the root again
  module _ (b : Store) (fs gs : List Flight) (w : Forest) (i : ℕ) (r : IsRunning b fs w i) (l : SetsOut fs gs) where
    abbrev at : Snapshot
    at = snapshot_of b numbers given

    abbrev waits : Flight
    waits = flight l.course (stage.Give l.leaf)

    abbrev out : Flight
    out = flight (record (l.course) { aim = bound_behind l.leaf.leaf.node l.range.back }) stage.Root

    under_then : (f : Flight) → In f (l.before ++ waits ∷ l.behind) → IsUnderWay numbers given b w f
    under_then f k = r.under f (subst (λ z. In f z) (sym l.from) k)

    own_then : IsUnderWay numbers given b w waits
    own_then = under_then waits (middle l.before l.behind waits)

    aimed : IsAimed out.course
    aimed = record {
      key = λ e. none_some (sym e ∙ l.scans);
      rises = λ range e way. (l.leaf.leaf.node.hi, ap (bound_behind l.leaf.leaf.node) (ap (λ (z : Range). z.back) (some_is (sym l.scans ∙ e)) ∙ way));
    }

    under_out : (f : Flight) → In f (l.before ++ out ∷ l.behind) → IsUnderWay numbers given b w f
    under_out f k = elim (one_of l.before l.behind out f k) [
      | inl e ↦ subst (λ z. IsUnderWay numbers given b w z) (sym e) (record { named = own_then.named; knows = (tt, tt, aimed); halves = tt })
      | inr o ↦ under_then f (others_in l.before l.behind waits f o)
    ]

    left_out : all_left (now b) (l.before ++ out ∷ l.behind) ≤ all_left (now b) (l.before ++ waits ∷ l.behind)
    left_out = plain _ _ (sum_falls (λ f. repairs_left (now b) (l.before ++ out ∷ l.behind) f.course.tree) (λ f. repairs_left (now b) (l.before ++ waits ∷ l.behind) f.course.tree) l.before l.behind waits out 0 (λ f o. same f.course.tree) (zero _ _ (same l.course.tree)))
      where
        plain : (x y : ℕ) → x + 0 ≤ y → x ≤ y
        plain x y l = omega arith

        zero : (x y : ℕ) → x ≤ y → x + 0 ≤ y
        zero x y l = omega arith

        equal : (x y : ℕ) → x ≡ y → x ≤ y
        equal x y e = omega arith

        same : (t : NamedTree) → repairs_left (now b) (l.before ++ out ∷ l.behind) t ≤ repairs_left (now b) (l.before ++ waits ∷ l.behind) t
        same t = equal _ _ (ap (λ z. 3 * to_do (now b) t.name + sum_once (λ p. grown (nodes_of (now b) p)) z) (gathers_same (λ (f : Flight). cond (nat_eq f.course.tree.number t.number) (meant_by (now b) f.stage) []) l.before l.behind out waits refl))

    turn_now : IsRunning b (l.before ++ out ∷ l.behind) w i
    turn_now =
        let a = pick at w l.before l.behind waits r.ahead (subst (λ z. AreGoing at w z r.ahead) l.from r.going) in
        let k = sets_out r.formed l.course l.course.tree.number l.leaf l.range a.0 own_then.named own_then.knows.0 l.more (subst (λ o. is_moving_as o at w l.course a.0 (stage.Give l.leaf)) l.scans a.2) in
        let all = lay at w l.before l.behind out k.0 a.1 (subst (λ o. is_moving_as o at w out.course k.0 stage.Root) (sym l.scans) k.2) a.3 in
        record {
          formed = r.formed;
          under = under_out;
          ahead = all.0;
          going = all.1;
          few = few;
          same = plain _ _ _ (sum_falls width width l.before l.behind waits out 0 (λ f o. le_refl _) (zero _)) (subst (λ z. sum_by width z ≤ wide) l.from r.same);
          falls = sum _ _ all.0 (times wide _ _ left_out) (fewer a.1 _ _ _ _ all.2 a.4 k.1) (subst (λ z. i + all_left (now b) z * wide + r.ahead ≤ most * wide + wide) l.from r.falls);
        }
      where
        plain : (x y z : ℕ) → x + 0 ≤ y → y ≤ z → x ≤ z
        plain x y z a b = omega arith

        zero : (x : ℕ) → x + 0 ≤ x
        zero x = omega arith

        fewer : (rest x y k n : ℕ) → x ≡ k + rest → y ≡ n + rest → k ≤ n → x ≤ y
        fewer rest x y k n a b c = omega arith

        sum : (x y ahead : ℕ) {total : ℕ} → x ≤ y → ahead ≤ r.ahead → i + y + r.ahead ≤ total → i + x + ahead ≤ total
        sum x y ahead a b c = omega arith

        less : (p x y z : ℕ) → x ≤ y → p + y ≤ z → p + x ≤ z
        less p x y z a b = omega arith

        few_then : (f : Flight) → In f (l.before ++ waits ∷ l.behind) → tree_pages (now b) f.course.tree.name + all_left (now b) (l.before ++ waits ∷ l.behind) ≤ tree_pages (now s) f.course.tree.name + most
        few_then f k = subst (λ z. tree_pages (now b) f.course.tree.name + all_left (now b) z ≤ tree_pages (now s) f.course.tree.name + most) l.from (r.few f (subst (λ z. In f z) (sym l.from) k))

        few : (f : Flight) → In f (l.before ++ out ∷ l.behind) → tree_pages (now b) f.course.tree.name + all_left (now b) (l.before ++ out ∷ l.behind) ≤ tree_pages (now s) f.course.tree.name + most
        few f k = elim (one_of l.before l.behind out f k) [
          | inl e ↦ subst (λ (z : Flight). tree_pages (now b) z.course.tree.name + all_left (now b) (l.before ++ out ∷ l.behind) ≤ tree_pages (now s) z.course.tree.name + most) (sym e) (less _ _ _ _ left_out (few_then waits (middle l.before l.behind waits)))
          | inr o ↦ less _ _ _ _ left_out (few_then f (others_in l.before l.behind waits f o))
        ]

    turn : IsRunning b gs w i
    turn = subst (λ z. IsRunning b z w i) (sym l.to) turn_now

  runs : (w : Forest) → IsRunning s first w 0 → (n : ℕ) (new : Store) (gs : List Flight) (v : Forest) → MovesAmong numbers given s first w n new gs v → IsRunning new gs v n
  runs w k n new gs v Begins = k
  runs w k n new hs v (Moves {n = i} {b = b} {gs = gs} {u = u} before l) = step b new gs hs u v i (runs w k i b gs u before) l
  runs w k n new hs v (Turns {gs = gs} before l) = turn new gs hs v n (runs w k n new gs v before) l

  few_steps : {b : Store} {fs : List Flight} {w : Forest} {n : ℕ} → IsRunning b fs w n → n ≤ moves_bound (now s) first
  few_steps {n = n} r = within _ r.ahead r.falls
    where
      within : (x y : ℕ) → n + x + y ≤ most * wide + wide → n ≤ (most + 1) * wide
      within x y l = all _ _ (ap (λ z. z * wide) one ∙ suc-mul most wide) l
        where
          one : most + 1 ≡ suc most
          one = omega arith

          all : (a b : ℕ) → b ≡ a + wide → n + x + y ≤ a + wide → n ≤ b
          all a b e l = omega arith

pub among_law : AmongLaw
among_law numbers given s fs w is under n new gs v m = few_steps numbers given s fs (runs numbers given s fs w (start numbers given s fs w is under) n new gs v m)

pub left_law : LeftLaw
left_law numbers given old fs w is under new gs v l =
    let r = start numbers given old fs w is under in
    record { left = left numbers given old fs old new fs gs w v 0 r l; under = (step numbers given old fs old new fs gs w v 0 r l).under }
