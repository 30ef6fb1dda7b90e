-- How a call in flight goes on: from its stage or, as a scan that is to go on behind its leaf, from the root.
use Rattle.std.proofs.Common.{◌≡◌, ◌≢◌, Bool, true, false, not, cond, List, [], ◌∷◌, ◌++◌, Option, Some, None, sym, refl, ap, ◌∙◌, subst, inl, inr, ◌⊎◌}
use Rattle.std.specs.Ordering.{is_lt}
use Rattle.std.specs.declared.ops.Bound.{Bound}
use Rattle.std.specs.declared.ops.Bound.TheVariants.{Included, Excluded, Unbounded}
use Rattle.sled_nodes.proofs.Basics.{none_some, some_is, true_false, is_less}
use Rattle.sled_nodes.specs.Among.{is_up_to}
use Rattle.sled_nodes.specs.Order.{Key, key_cmp}
use Rattle.sled_nodes.specs.Ranges.{Range, is_reversed}
use Rattle.sled_nodes.specs.declared.error.Error.TheVariants.{NoMemory}
use Rattle.sled_nodes.specs.declared.node.Node.{Node}
use Rattle.sled_store.specs.Store.{Store}
use Rattle.sled_model.specs.Answer.{key_of}
use Rattle.sled_model.specs.Scan.{is_read}
use Rattle.sled_model.specs.State.{range_of, IsOnKey}
use Rattle.sled_model.specs.declared.call.Call.{Call}
use Rattle.sled_model.specs.declared.call.Call.TheVariants.{Scan}
use Rattle.sled_model.specs.declared.reply.Reply.TheVariants.{End}
use Rattle.tree_laws.proofs.Order.{least, upto_below-trans}
use Rattle.tree_laws.specs.declared.flight.Giving.{Giving}
use Rattle.tree_laws.specs.declared.flight.Stage.{Stage}
use Rattle.tree_laws.specs.declared.flight.Stage.TheVariants.{Root, Give}
use Rattle.sled_tree.specs.Course.{Course, IsAimed, aim_of, course_of, first_aim}
use Rattle.sled_tree.specs.Follows.{Follows, FollowsOn}
use Rattle.sled_tree.specs.declared.flight.Aim.{Aim}
use Rattle.sled_tree.specs.declared.flight.Aim.TheVariants.{Own, At}
use Rattle.sled_tree.specs.declared.flight.InFlight.{InFlight}
use Rattle.sled_tree.specs.declared.flight.Job.{Job}
use Rattle.sled_tree.specs.declared.flight.Sequel.TheVariants.{Go}
use Rattle.sled_tree.specs.declared.flight.Went.{Went}
use Rattle.sled_tree.specs.declared.flight.Went.TheVariants.{Moved, Yielded, Decided, Refused}
use Rattle.tree_progress.proofs.Landing.{aims_low}
use Rattle.move_laws.specs.Among.{bound_behind, SetsOut}
use Rattle.move_laws.specs.Meant.{Flight, flight}
use Rattle.tree_scans.proofs.Scanning.{range_up, range_down}
use Rattle.tree_scans.proofs.Stepping.{same_way}
use Rattle.tree_scans.specs.Scans.{ScanStep, Gives, Ends, GoesOn, Walks, Lacks, aim_behind, behind, range_from, rest_in, rest_of}
use Rattle.sled.specs.Flights.{WalksOn, follows_as, keeps_aim}

abbrev pub flight_of : InFlight → Flight
flight_of f = flight (course_of f) f.stage

-- the course and the stage that a step goes on from
pub record SetsOff (old new : Store) (f g : InFlight) : Type 0 where
  pub course : Course
  pub was : Stage
  pub turns : (fs before behind : List Flight) → fs ≡ before ++ flight_of f ∷ behind → (fs ≡ before ++ flight course was ∷ behind) ⊎ SetsOut fs (before ++ flight course was ∷ behind)
  pub follows : Follows course old was (Go g.stage) new
  pub same : course_of g ≡ course
  pub begins : was ≡ Root → is_up_to course.aim [] ≡ true

-- bounds that give something have the least key below their end
above_least : (a b : Key) → not (is_lt (key_cmp a b)) ≡ false → is_lt (key_cmp [] b) ≡ true
above_least a b e = ap is_lt (upto_below-trans [] a b (least a) (is_less (key_cmp a b) (on (is_lt (key_cmp a b)) e)))
  where
    on : (t : Bool) → not t ≡ false → t ≡ true
    on true e = refl
    on false e = true_false e

low_of : (lo hi : Bound Key) → is_reversed lo hi ≡ false → is_up_to hi [] ≡ true
low_of lo Unbounded e = refl
low_of lo (Included b) e = ap not (least b)
low_of (Included a) (Excluded b) e = above_least a b e
low_of (Excluded a) (Excluded b) e = above_least a b e
low_of Unbounded (Excluded b) e = above_least [] b e

-- where something is left to read behind a leaf
down_low : (lo : Key) (q : Range) → is_read (range_down lo q) ≡ false → is_up_to (Excluded lo) [] ≡ true
down_low [] q e = absurd (true_false e)
down_low (b ∷ bs) q e = low_of q.lo (Excluded (b ∷ bs)) e

up_more : (hi : Key) (q : Range) → is_read (range_up hi q) ≡ false → hi ≢ []
up_more [] q e none = true_false e
up_more (b ∷ bs) q e none = cc

behind_low : (n : Node) (q : Range) (back : Bool) → is_read (cond back (range_down n.lo q) (range_up n.hi q)) ≡ false → (is_up_to (bound_behind n back) [] ≡ true) × (back ≡ false → n.hi ≢ [])
behind_low n q true e = (down_low n.lo q e, λ off. true_false off)
behind_low n q false e = (ap not (least n.hi), λ same. up_more n.hi q e)

-- a scan that reads the root aims at the least key or above it
first_hi : (call : Call) (r : Range) → range_of call ≡ Some r → r.back ≡ true → first_aim call ≡ r.hi
first_hi (Scan lo hi true) r e back = ap (λ (z : Range). z.hi) (some_is e)
first_hi (Scan lo hi false) r e back = true_false (sym back ∙ sym (ap (λ (z : Range). z.back) (some_is e)))
first_hi other r e back = none_some e

aim_hi : (j : Job) (aim : Aim) (r : Range) → range_of j.call ≡ Some r → r.back ≡ true → aim_of j aim ≡ (range_from aim r).hi
aim_hi j Own r e back = first_hi j.call r e back
aim_hi j (At bound) r e back = sym (ap (λ b. (cond b (record r { hi = bound }) (record r { lo = bound })).hi) back)

root_low : (f : InFlight) (r : Range) → range_of f.job.call ≡ Some r → IsAimed (course_of f) → is_reversed (range_from f.aim r).lo (range_from f.aim r).hi ≡ false → is_up_to (course_of f).aim [] ≡ true
root_low f r e aimed some = go r.back refl
  where
    go : (b : Bool) → r.back ≡ b → is_up_to (course_of f).aim [] ≡ true
    go true back = ap (λ z. is_up_to z []) (aim_hi f.job f.aim r e back) ∙ low_of (range_from f.aim r).lo (range_from f.aim r).hi some
    go false back = let k = aimed.rises r e back in ap (λ z. is_up_to z []) k.1 ∙ ap not (least k.0)

behind_is : (j : Job) (n : Node) (back : Bool) → aim_of j (aim_behind n back) ≡ bound_behind n back
behind_is j n true = refl
behind_is j n false = refl

module _ (old new : Store) (f g : InFlight) (same_tree : g.job.tree ≡ f.job.tree) (same_call : g.job.call ≡ f.job.call) where
  same_aim : (aim : Aim) → aim_of g.job aim ≡ aim_of f.job aim
  same_aim Own = ap first_aim same_call
  same_aim (At bound) = refl

  course_is : (aim : Bound Key) → aim_of g.job g.aim ≡ aim → course_of g ≡ record { tree = f.job.tree; call = f.job.call; aim = aim }
  course_is aim e =
      ap (λ z. record { tree = z; call = g.job.call; aim = aim_of g.job g.aim }) same_tree
      ∙ ap (λ z. record { tree = f.job.tree; call = z; aim = aim_of g.job g.aim }) same_call
      ∙ ap (λ z. record { tree = f.job.tree; call = f.job.call; aim = z }) e

  -- from its stage
  goes_on : aim_of g.job g.aim ≡ aim_of f.job f.aim → (f.stage ≡ Root → is_up_to (course_of f).aim [] ≡ true) → (went : Went) → went ≡ Moved → FollowsOn old f went new g → SetsOff old new f g
  goes_on aim low went e k = record {
    course = course_of f;
    was = f.stage;
    turns = λ fs before behind is. inl is;
    follows = (subst (λ z. FollowsOn old f z new g) e k).is;
    same = course_is (aim_of f.job f.aim) aim;
    begins = low;
  }

  -- .. or from the root, from behind its leaf
  goes_behind : (a : Giving) (r : Range) → f.stage ≡ Give a → range_of f.job.call ≡ Some r → is_read (rest_of f) ≡ false → (went : Went) → went ≡ Moved → WalksOn old (behind f a r) went new g → SetsOff old new f g
  goes_behind a r at scans some went e k = record {
    course = record { tree = f.job.tree; call = f.job.call; aim = bound_behind a.leaf.node r.back };
    was = Root;
    turns = λ fs before behind is. inr (record {
      course = course_of f;
      leaf = a;
      range = r;
      scans = scans;
      more = low.1;
      before = before;
      behind = behind;
      from = is ∙ ap (λ z. before ++ flight (course_of f) z ∷ behind) at;
      to = refl;
    });
    follows = subst (λ z. Follows (record { tree = f.job.tree; call = f.job.call; aim = z }) old Root (Go g.stage) new) (behind_is f.job a.leaf.node r.back) (subst (λ z. FollowsOn old (behind f a r) z new g) e k.follows).is;
    same = course_is (bound_behind a.leaf.node r.back) (ap (aim_of g.job) (subst (λ z. keeps_aim z (behind f a r) g) e k.aims) ∙ behind_is g.job a.leaf.node r.back);
    begins = λ same. low.0;
  }
    where
      low : (is_up_to (bound_behind a.leaf.node r.back) [] ≡ true) × (r.back ≡ false → a.leaf.node.hi ≢ [])
      low =
          let rest = subst (λ z. is_read (rest_in (Give a) f.aim z) ≡ false) scans (subst (λ z. is_read (rest_in z f.aim (range_of f.job.call)) ≡ false) at some) in
          behind_low a.leaf.node (range_from f.aim r) r.back (subst (λ b. is_read (cond b (range_down a.leaf.node.lo (range_from f.aim r)) (range_up a.leaf.node.hi (range_from f.aim r))) ≡ false) (same_way f.aim r) rest)

-- a step of a scan that goes on
scanned : (r : Range) (old new : Store) (f g : InFlight) (went : Went) → g.job.tree ≡ f.job.tree → g.job.call ≡ f.job.call → IsAimed (course_of f) → IsAimed (course_of g) → range_of f.job.call ≡ Some r → went ≡ Moved → ScanStep WalksOn old f went new g → SetsOff old new f g
scanned r old new f g went tree call aimed aims scans e (Gives a key value more at waits) = absurd (off e)
  where
    off : Yielded key value ≡ Moved → ⊥
    off e = cc
scanned r old new f g went tree call aimed aims scans e (Ends x can none read) = absurd (off e)
  where
    off : Decided End ≡ Moved → ⊥
    off e = cc
scanned r old new f g went tree call aimed aims scans e (Lacks a x at) = absurd (off e)
  where
    off : Refused NoMemory ≡ Moved → ⊥
    off e = cc
scanned r old new f g went tree call aimed aims scans e (GoesOn a q x y z at range none some k) =
    goes_behind old new f g tree call a r at scans some went e (subst (λ q. WalksOn old (behind f a q) went new g) (some_is (sym range ∙ scans)) k)
scanned r old new f g went tree call aimed aims scans e (Walks x y z way reads k) =
    goes_on old new f g tree call (ap (aim_of g.job) (subst (λ z. keeps_aim z f g) e k.aims) ∙ same_aim old new f g tree call f.aim) (λ root. root_low f r scans aimed (some (reads root) root)) went e k.follows
  where
    some : is_read (rest_of f) ≡ false → f.stage ≡ Root → is_reversed (range_from f.aim r).lo (range_from f.aim r).hi ≡ false
    some e root = subst (λ z. is_read (rest_in Root f.aim z) ≡ false) scans (subst (λ z. is_read (rest_in z f.aim (range_of f.job.call)) ≡ false) root e)

pub sets_off : (old new : Store) (f g : InFlight) → g.job.tree ≡ f.job.tree → g.job.call ≡ f.job.call → IsAimed (course_of f) → IsAimed (course_of g) → (went : Went) → went ≡ Moved → follows_as (range_of f.job.call) old f went new g → SetsOff old new f g
sets_off old new f g tree call aimed aims went e k = go (range_of f.job.call) refl k
  where
    go : (o : Option Range) → range_of f.job.call ≡ o → follows_as o old f went new g → SetsOff old new f g
    go None on_key k =
        let on_key_now : IsOnKey g.job.call = ap range_of call ∙ on_key in
        goes_on old new f g tree call (aims.key on_key_now ∙ ap (λ z. Included (key_of z)) call ∙ sym (aimed.key on_key)) (λ root. aims_low (course_of f) on_key aimed) went e k
    go (Some r) scans k = scanned r old new f g went tree call aimed aims scans e k
