-- What a scan has still to read and what waits of it, from step to step; and that its leaf has a beginning of it.
use Rattle.std.proofs.lemmas.List.Elements.{filter-append}
use Rattle.std.specs.Ordering.{is_lt, is_gt}
use Rattle.std.proofs.Common.{cond, append-nil, ◌≡◌, ℕ, zero, suc, ◌+◌, ◌⊎◌, ◌&&◌, ◌||◌, not, true, false, Bool, List, [], ◌∷◌, ◌++◌, drop, filter, reverse, Option, Some, None, sym, refl, ap, ◌∙◌, subst, inl, inr, arith}
use Rattle.std.specs.List.{AllByRecursion}
use Rattle.std.specs.declared.ops.Bound.{Bound}
use Rattle.std.specs.declared.ops.Bound.TheVariants.{Included, Excluded, Unbounded}
use Rattle.sled_nodes.proofs.Basics.{none_some, some_is, false_true, true_false, not_true, second_true, first_off, second_off, is_less}
use Rattle.sled_nodes.specs.Among.{is_from, is_up_to}
use Rattle.sled_nodes.specs.Node.{pairs, Covers}
use Rattle.sled_nodes.specs.Order.{Key, key_cmp, Below, UpTo}
use Rattle.sled_nodes.specs.Ranges.{Range, pairs_in, is_in_range}
use Rattle.sled_nodes.specs.declared.node.Node.{Node}
use Rattle.sled_model.specs.State.{range_of}
use Rattle.sled_model.specs.Scan.{is_read, TakesBeginning}
use Rattle.tree_laws.specs.Snapshot.{LiesUnder}
use Rattle.tree_laws.proofs.Order.{below-trans, upto-below, below_upto-trans, below_irrefl, below_not_upto, behind_key, up_to_key, within_below, beyond}
use Rattle.tree_laws.specs.declared.flight.Giving.{Giving}
use Rattle.tree_laws.specs.declared.flight.Stage.TheVariants as stage
use Rattle.tree_laws.proofs.Pairs.{not_below_empty}
use Rattle.sled_tree.specs.declared.flight.Aim.{Aim}
use Rattle.sled_tree.specs.declared.flight.Aim.TheVariants.{Own, At}
use Rattle.sled_tree.specs.declared.flight.InFlight.{InFlight}
use Rattle.tree_scans.specs.Scans.{range_from, range_by, range_behind, rest_in, rest_of, waiting_in, waiting_of, aim_behind, behind}

-- the range from a key up, or below it
abbrev pub range_up : Key → Range → Option Range
range_up k r = range_by k (λ b. record r { lo = Included b })

abbrev pub range_down : Key → Range → Option Range
range_down k r = range_by k (λ b. record r { hi = Excluded b })

cons_none : {P X : Type 0} {x : X} {xs : List X} → x ∷ xs ≡ [] → P
cons_none e = cc

-- a scan that begins has all of its range to read, and nothing waits
pub rest_begun : (o : Option Range) → rest_in stage.Root Own o ≡ o
rest_begun None = refl
rest_begun (Some r) = refl

pub none_begun : (aim : Aim) (o : Option Range) → waiting_in stage.Root aim o ≡ []
none_begun aim None = refl
none_begun aim (Some r) = refl

drop_more : {X : Type 0} (n : ℕ) (xs : List X) (x : X) (more : List X) → drop n xs ≡ x ∷ more → drop (suc n) xs ≡ more
drop_more zero [] x more e = cc
drop_more (suc n) [] x more e = cc
drop_more zero (y ∷ ys) x more e = cc
drop_more (suc n) (y ∷ ys) x more e = drop_more n ys x more e

pub one_more : (n : ℕ) → n + 1 ≡ suc n
one_more n = omega arith

-- after the first pair that waits was given the others wait, and as much is left to read
module _ (f : InFlight) (a : Giving) where
  abbrev given_on : InFlight
  given_on = record f { stage = stage.Give (record a { given = a.given + 1 }); turns = 0 }

  pub more_wait : (x : Key × Key) (more : List (Key × Key)) → f.stage ≡ stage.Give a → waiting_of f ≡ x ∷ more → waiting_of given_on ≡ more
  more_wait x more here waits = go (range_of f.job.call) (sym (ap (λ s. waiting_in s f.aim (range_of f.job.call)) here) ∙ waits)
    where
      go : (o : Option Range) → waiting_in (stage.Give a) f.aim o ≡ x ∷ more → waiting_in (stage.Give (record a { given = a.given + 1 })) f.aim o ≡ more
      go None e = cc
      go (Some r) e = ap (λ n. drop n (pairs_in (range_from f.aim r) (pairs a.leaf.node.content))) (one_more a.given) ∙ drop_more a.given (pairs_in (range_from f.aim r) (pairs a.leaf.node.content)) x more e

  pub rest_stays : f.stage ≡ stage.Give a → rest_of given_on ≡ rest_of f
  rest_stays here = go (range_of f.job.call) ∙ sym (ap (λ s. rest_in s f.aim (range_of f.job.call)) here)
    where
      go : (o : Option Range) → rest_in (stage.Give (record a { given = a.given + 1 })) f.aim o ≡ rest_in (stage.Give a) f.aim o
      go None = refl
      go (Some r) = refl

  -- behind its leaf it goes on with what was left, and nothing waits
  module _ (r : Range) where
    pub behind_waits : waiting_of (behind f a r) ≡ []
    behind_waits = none_begun (aim_behind a.leaf.node r.back) (range_of f.job.call)

    pub behind_rest : f.stage ≡ stage.Give a → range_of f.job.call ≡ Some r → is_read (rest_of f) ≡ false → rest_of (behind f a r) ≡ rest_of f
    behind_rest here scan more =
        ap (rest_in stage.Root (aim_behind a.leaf.node r.back)) scan
        ∙ go f.aim r.lo r.hi r.back (sym (ap is_read rest_is) ∙ more)
        ∙ sym rest_is
      where
        rest_is : rest_of f ≡ range_behind a.leaf.node (range_from f.aim r)
        rest_is = ap (λ s. rest_in s f.aim (range_of f.job.call)) here ∙ ap (rest_in (stage.Give a) f.aim) scan

        up : (k : Key) (q : Range) → q.back ≡ false → is_read (range_up k q) ≡ false → Some (record q { lo = Included k }) ≡ range_up k q
        up [] q way more = true_false more
        up (b ∷ bs) q way more = refl

        down : (k : Key) (q : Range) → is_read (range_down k q) ≡ false → Some (record q { hi = Excluded k }) ≡ range_down k q
        down [] q more = true_false more
        down (b ∷ bs) q more = refl

        go : (aim : Aim) (lo hi : Bound Key) (back : Bool) → is_read (range_behind a.leaf.node (range_from aim (record { lo = lo; hi = hi; back = back }))) ≡ false
            → Some (range_from (aim_behind a.leaf.node back) (record { lo = lo; hi = hi; back = back })) ≡ range_behind a.leaf.node (range_from aim (record { lo = lo; hi = hi; back = back }))
        go Own lo hi true more = down a.leaf.node.lo (record { lo = lo; hi = hi; back = true }) more
        go Own lo hi false more = up a.leaf.node.hi (record { lo = lo; hi = hi; back = false }) refl more
        go (At bound) lo hi true more = down a.leaf.node.lo (record { lo = lo; hi = bound; back = true }) more
        go (At bound) lo hi false more = up a.leaf.node.hi (record { lo = bound; hi = hi; back = false }) refl more

-- ---- a leaf has a beginning of what a scan has to read

-- a range begins at the key, from the least key up
abbrev pub IsStart : Bound Key → Key → Type 0
IsStart (Included a) k = a ≡ k
IsStart (Excluded a) k = a ≡ k
IsStart Unbounded k = k ≡ []

-- a walk to where the range begins aims so
abbrev pub starts_as : Bool → Bound Key → Bound Key → Bound Key → Type 0
starts_as false lo hi aim = (k : Key) × (aim ≡ Included k) × IsStart lo k
starts_as true lo hi aim = aim ≡ hi

true_or_false : {P : Type 0} (b : Bool) → (b ≡ true → P) → (b ≡ false → P) → P
true_or_false true t f = t refl
true_or_false false t f = f refl

-- of two keys the first is below the second, or the second is up to the first
below_or_upto : {P : Type 0} (a b : Key) → (Below a b → P) → (UpTo b a → P) → P
below_or_upto a b below upto = true_or_false (is_up_to (Included a) b) (λ t. upto (up_to_key b a t)) (λ f. below (behind_key b a f))

lt_below : (a b : Key) → is_lt (key_cmp a b) ≡ true → Below a b
lt_below a b e = is_less (key_cmp a b) e

not_below : (a b : Key) → UpTo b a → is_lt (key_cmp a b) ≡ false
not_below a b u = true_or_false (is_lt (key_cmp a b)) (λ t. absurd (below_not_upto a b (lt_below a b t) u)) (λ f. f)

-- a key is within an upper bound where one from it on is, and is not where one up to it is not
lower : (hi : Bound Key) (a b : Key) → UpTo a b → is_up_to hi b ≡ true → is_up_to hi a ≡ true
lower hi a b u t = true_or_false (is_up_to hi a) (λ e. e) (λ f. absurd (below_not_upto b a (within_below hi b a t f) u))

-- .. and so it is of a lower bound, the other way
outside_below : (lo : Bound Key) (a b : Key) → is_from lo b ≡ true → is_from lo a ≡ false → Below a b
outside_below (Included k) a b t f = within_below (Excluded k) a b (go (is_up_to (Excluded k) a) f) (not_true (is_up_to (Excluded k) b) t)
  where
    go : (x : Bool) → not x ≡ false → x ≡ true
    go true e = refl
    go false e = cc
outside_below (Excluded k) a b t f = within_below (Included k) a b (ap not f) (ap not t)
outside_below Unbounded a b t f = true_false f

higher : (lo : Bound Key) (a b : Key) → UpTo a b → is_from lo a ≡ true → is_from lo b ≡ true
higher lo a b u t = true_or_false (is_from lo b) (λ e. e) (λ f. absurd (below_not_upto b a (outside_below lo b a t f) u))

short : (lo : Bound Key) (a b : Key) → Below a b → is_from lo b ≡ false → is_from lo a ≡ false
short lo a b l f = true_or_false (is_from lo a) (λ t. absurd (below_irrefl a (below-trans a b a l (outside_below lo b a t f)))) (λ e. e)

-- a key above the one where a range begins is from there on, and one below it is not
above_start : (lo : Bound Key) (k j : Key) → IsStart lo k → Below k j → is_from lo j ≡ true
above_start (Included a) k j e l = ap not (ap (λ z. is_lt (key_cmp j z)) e ∙ not_below j k (upto-below k j l))
above_start (Excluded a) k j e l = true_or_false (is_gt (key_cmp j a)) (λ t. t) (λ f. absurd (below_not_upto k j l (ap (λ z. is_gt (key_cmp j z)) (sym e) ∙ f)))
above_start Unbounded k j e l = refl

below_start : (lo : Bound Key) (k j : Key) → IsStart lo k → Below j k → is_from lo j ≡ false
below_start (Included a) k j e l = ap not (ap (λ z. is_lt (key_cmp j z)) e ∙ ap is_lt l)
below_start (Excluded a) k j e l = ap (λ z. is_gt (key_cmp j z)) e ∙ ap is_gt l
below_start Unbounded k j e l = absurd (not_below_empty j (subst (Below j) e l))

-- lists of pairs that a test passes
filter_none : (p : Key × Key → Bool) (xs : List (Key × Key)) → AllByRecursion (λ e. p e ≡ false) xs → filter p xs ≡ []
filter_none p [] a = refl
filter_none p (x ∷ xs) a = ap (λ b. cond b (x ∷ filter p xs) (filter p xs)) a.0 ∙ filter_none p xs a.1

filter_same : (p q : Key × Key → Bool) (xs : List (Key × Key)) → AllByRecursion (λ e. p e ≡ q e) xs → filter p xs ≡ filter q xs
filter_same p q [] a = refl
filter_same p q (x ∷ xs) a = ap (λ b. cond b (x ∷ filter p xs) (filter p xs)) a.0 ∙ ap (λ zs. cond (q x) (x ∷ zs) zs) (filter_same p q xs a.1)

each : {A B : Key × Key → Type 0} → ((e : Key × Key) → A e → B e) → (xs : List (Key × Key)) → AllByRecursion A xs → AllByRecursion B xs
each f [] a = tt
each f (x ∷ xs) a = (f x a.0, each f xs a.1)

-- a range has of a list what it has of the middle, where it has nothing of both sides
middle : (p q : Key × Key → Bool) (before es behind all : List (Key × Key)) → all ≡ before ++ (es ++ behind) → AllByRecursion (λ e. q e ≡ false) before → AllByRecursion (λ e. p e ≡ q e) es → AllByRecursion (λ e. q e ≡ false) behind → filter p es ≡ filter q all
middle p q before es behind all is a b c =
    filter_same p q es b
    ∙ sym (ap (filter q) is ∙ filter-append q before (es ++ behind) ∙ ap (λ zs. zs ++ filter q (es ++ behind)) (filter_none q before a) ∙ filter-append q es behind ∙ ap (λ zs. filter q es ++ zs) (filter_none q behind c) ∙ append-nil (filter q es))

-- a range and its parts, key by key
or_none : (a : Bool) → a ≡ a || false
or_none true = refl
or_none false = refl

-- before where it is cut the key is in the part if it is in the range, and behind it is in the rest
all_same : (r : Range) (xs : List (Key × Key)) → AllByRecursion (λ e. is_in_range r e.0 ≡ is_in_range r e.0) xs
all_same r [] = tt
all_same r (x ∷ xs) = (refl, all_same r xs)

part_alone : (r p q : Bool) → p ≡ r → q ≡ false → r ≡ p || q
part_alone r p q e none = or_none r ∙ sym (ap (λ x. x || q) e ∙ ap (λ x. r || x) none)

-- all of the range is taken where none is in what is left
takes_before : (r rest : Range) → rest.back ≡ r.back → ((k : Key) → is_in_range rest k ≡ false) → TakesBeginning r r (Some rest)
takes_before r rest way none = record {
  way = refl;
  way_left = λ q e. ap (λ (z : Range). z.back) (sym (some_is e)) ∙ way;
  splits = λ k. part_alone _ _ _ refl (none k);
  before = λ j k in_part in_rest. false_true (sym (none k) ∙ in_rest);
}

rest_alone : (r p q : Bool) → p ≡ false → q ≡ r → r ≡ p || q
rest_alone r p q none e = sym (ap (λ x. x || q) none ∙ e)

-- a range from the least key up, and one from the greatest down
abbrev rising : Bound Key → Bound Key → Range
rising lo hi = record { lo = lo; hi = hi; back = false }

abbrev falling : Bound Key → Bound Key → Range
falling lo hi = record { lo = lo; hi = hi; back = true }

-- ---- from the least key up

module _ (n : Node) (lo hi : Bound Key) (k : Key) (start : IsStart lo k) (begins : UpTo n.lo k) where
  abbrev up : Range
  up = rising lo hi

  -- no pair before the leaf is within the range
  not_before : (e : Key × Key) → Below e.0 n.lo → is_from lo e.0 ≡ false
  not_before e l = below_start lo k e.0 start (below_upto-trans e.0 n.lo k l begins)

  -- the leaf is the last one
  module _ (before es behind all : List (Key × Key)) (is : all ≡ before ++ (es ++ behind)) (a : AllByRecursion (λ e. Below e.0 n.lo) before) where
    whole_up : n.hi ≡ [] → AllByRecursion (λ e. (n.hi ≡ [] → ⊥) × UpTo n.hi e.0) behind → pairs_in up es ≡ pairs_in up all
    whole_up last c = middle (λ e. is_in_range up e.0) (λ e. is_in_range up e.0) before es behind all is
        (each (λ e l. first_off (is_from lo e.0) (is_up_to hi e.0) (not_before e l)) before a)
        (all_same es)
        (each (λ e b. absurd (b.0 last)) behind c)
      where
        all_same : (xs : List (Key × Key)) → AllByRecursion (λ e. is_in_range up e.0 ≡ is_in_range up e.0) xs
        all_same [] = tt
        all_same (x ∷ xs) = (refl, all_same xs)

  -- another follows where it ends
  module _ (h : Key) (ends : Below k h) where
    abbrev rest_up : Range
    rest_up = record { lo = Included h; hi = hi; back = false }

    from_end : (j : Key) → UpTo h j → is_from lo j ≡ true
    from_end j u = above_start lo k j start (below_upto-trans k h j ends u)

    in_rest : (j : Key) → UpTo h j → is_from (Included h) j ≡ true
    in_rest j u = ap not (not_below j h u)

    off_rest : (j : Key) → Below j h → is_from (Included h) j ≡ false
    off_rest j l = ap not (ap is_lt l)

    -- the range goes on there
    module _ (goes_on : is_up_to hi h ≡ true) where
      abbrev part_up : Range
      part_up = record { lo = lo; hi = Excluded h; back = false }

      within_end : (j : Key) → Below j h → is_up_to hi j ≡ true
      within_end j l = lower hi j h (upto-below j h l) goes_on

      cut_up : TakesBeginning up part_up (Some rest_up)
      cut_up = record {
        way = refl;
        way_left = λ r e. sym (ap (λ (z : Range). z.back) (some_is e));
        splits = λ j. below_or_upto j h
            (λ l. part_alone _ _ _ (ap (λ x. is_from lo j && x) (ap is_lt l ∙ sym (within_end j l))) (first_off _ (is_up_to hi j) (off_rest j l)))
            (λ u. rest_alone _ _ _ (second_off (is_from lo j) _ (not_below j h u)) (ap (λ x. x && is_up_to hi j) (in_rest j u ∙ sym (from_end j u))));
        before = λ i j in_part in_other. below_or_upto j h
            (λ l. absurd (false_true (sym (first_off _ (is_up_to hi j) (off_rest j l)) ∙ in_other)))
            (λ u. below_upto-trans i h j (lt_below i h (second_true (is_from lo i) _ in_part)) u);
      }

      same_up : (before es behind all : List (Key × Key)) → all ≡ before ++ (es ++ behind) → AllByRecursion (λ e. Below e.0 n.lo) before → AllByRecursion (λ e. Below e.0 h) es → AllByRecursion (λ e. UpTo h e.0) behind → pairs_in up es ≡ pairs_in part_up all
      same_up before es behind all is a b c = middle (λ e. is_in_range up e.0) (λ e. is_in_range part_up e.0) before es behind all is
          (each (λ e l. first_off (is_from lo e.0) _ (not_before e l)) before a)
          (each (λ e l. ap (λ x. is_from lo e.0 && x) (within_end e.0 l ∙ sym (ap is_lt l))) es b)
          (each (λ e u. second_off (is_from lo e.0) _ (not_below e.0 h u)) behind c)

    -- the range ends before
    module _ (done : is_up_to hi h ≡ false) where
      past_end : (j : Key) → UpTo h j → is_up_to hi j ≡ false
      past_end j u = beyond hi h j u done

      none_left : (j : Key) → is_in_range rest_up j ≡ false
      none_left j = below_or_upto j h (λ l. first_off _ (is_up_to hi j) (off_rest j l)) (λ u. second_off (is_from (Included h) j) _ (past_end j u))

      all_up : TakesBeginning up up (Some rest_up)
      all_up = takes_before up rest_up refl none_left

      kept_up : (before es behind all : List (Key × Key)) → all ≡ before ++ (es ++ behind) → AllByRecursion (λ e. Below e.0 n.lo) before → AllByRecursion (λ e. UpTo h e.0) behind → pairs_in up es ≡ pairs_in up all
      kept_up before es behind all is a c = middle (λ e. is_in_range up e.0) (λ e. is_in_range up e.0) before es behind all is
          (each (λ e l. first_off (is_from lo e.0) _ (not_before e l)) before a)
          (all_same up es)
          (each (λ e u. second_off (is_from lo e.0) _ (past_end e.0 u)) behind c)

-- ---- from the greatest key down

module _ (n : Node) (lo hi : Bound Key) (begins : is_up_to hi n.lo ≡ true) where
  abbrev down : Range
  down = falling lo hi

  abbrev IsBehind : Key → Type 0
  IsBehind j = (n.hi ≡ [] → ⊥) × UpTo n.hi j

  -- no pair behind the leaf is within the range
  not_behind : (n.hi ≡ []) ⊎ (is_up_to hi n.hi ≡ false) → (j : Key) → IsBehind j → is_up_to hi j ≡ false
  not_behind (inl last) j b = absurd (b.0 last)
  not_behind (inr off) j b = beyond hi n.hi j b.1 off

  module _ (ends : (n.hi ≡ []) ⊎ (is_up_to hi n.hi ≡ false)) where
    -- the leaf is the first one
    whole_down : (before es behind all : List (Key × Key)) → all ≡ before ++ (es ++ behind) → AllByRecursion (λ e. Below e.0 n.lo) before → AllByRecursion (λ e. IsBehind e.0) behind → n.lo ≡ [] → pairs_in down es ≡ pairs_in down all
    whole_down before es behind all is a c first = ap reverse (middle (λ e. is_in_range down e.0) (λ e. is_in_range down e.0) before es behind all is
        (each (λ e l. absurd (not_below_empty e.0 (subst (Below e.0) first l))) before a)
        (all_same es)
        (each (λ e b. second_off (is_from lo e.0) _ (not_behind ends e.0 b)) behind c))
      where
        all_same : (xs : List (Key × Key)) → AllByRecursion (λ e. is_in_range down e.0 ≡ is_in_range down e.0) xs
        all_same [] = tt
        all_same (x ∷ xs) = (refl, all_same xs)

    -- another comes before where it begins
    abbrev rest_down : Range
    rest_down = record { lo = lo; hi = Excluded n.lo; back = true }

    under_start : (j : Key) → Below j n.lo → is_up_to hi j ≡ true
    under_start j l = lower hi j n.lo (upto-below j n.lo l) begins

    -- the range goes on there
    module _ (goes_on : is_from lo n.lo ≡ true) where
      abbrev part_down : Range
      part_down = record { lo = Included n.lo; hi = hi; back = true }

      from_start : (j : Key) → UpTo n.lo j → is_from lo j ≡ true
      from_start j u = higher lo n.lo j u goes_on

      in_part : (j : Key) → UpTo n.lo j → is_from (Included n.lo) j ≡ true
      in_part j u = ap not (not_below j n.lo u)

      off_part : (j : Key) → Below j n.lo → is_from (Included n.lo) j ≡ false
      off_part j l = ap not (ap is_lt l)

      cut_down : TakesBeginning down part_down (Some rest_down)
      cut_down = record {
        way = refl;
        way_left = λ r e. sym (ap (λ (z : Range). z.back) (some_is e));
        splits = λ j. below_or_upto j n.lo
            (λ l. rest_alone _ _ _ (first_off _ (is_up_to hi j) (off_part j l)) (ap (λ x. is_from lo j && x) (ap is_lt l ∙ sym (under_start j l))))
            (λ u. part_alone _ _ _ (ap (λ x. x && is_up_to hi j) (in_part j u ∙ sym (from_start j u))) (second_off (is_from lo j) _ (not_below j n.lo u)));
        before = λ i j in_it in_other. below_or_upto i n.lo
            (λ l. absurd (false_true (sym (first_off _ (is_up_to hi i) (off_part i l)) ∙ in_it)))
            (λ u. below_upto-trans j n.lo i (lt_below j n.lo (second_true (is_from lo j) _ in_other)) u);
      }

      same_down : (before es behind all : List (Key × Key)) → all ≡ before ++ (es ++ behind) → AllByRecursion (λ e. Below e.0 n.lo) before → AllByRecursion (λ e. UpTo n.lo e.0) es → AllByRecursion (λ e. IsBehind e.0) behind → pairs_in down es ≡ pairs_in part_down all
      same_down before es behind all is a b c = ap reverse (middle (λ e. is_in_range down e.0) (λ e. is_in_range part_down e.0) before es behind all is
          (each (λ e l. first_off _ (is_up_to hi e.0) (off_part e.0 l)) before a)
          (each (λ e u. ap (λ x. x && is_up_to hi e.0) (from_start e.0 u ∙ sym (in_part e.0 u))) es b)
          (each (λ e b. second_off _ _ (not_behind ends e.0 b)) behind c))

    -- the range begins behind it
    module _ (done : is_from lo n.lo ≡ false) where
      none_under : (j : Key) → is_in_range rest_down j ≡ false
      none_under j = below_or_upto j n.lo (λ l. first_off (is_from lo j) _ (short lo j n.lo l done)) (λ u. second_off (is_from lo j) _ (not_below j n.lo u))

      all_down : TakesBeginning down down (Some rest_down)
      all_down = takes_before down rest_down refl none_under

      kept_down : (before es behind all : List (Key × Key)) → all ≡ before ++ (es ++ behind) → AllByRecursion (λ e. Below e.0 n.lo) before → AllByRecursion (λ e. IsBehind e.0) behind → pairs_in down es ≡ pairs_in down all
      kept_down before es behind all is a c = ap reverse (middle (λ e. is_in_range down e.0) (λ e. is_in_range down e.0) before es behind all is
          (each (λ e l. first_off (is_from lo e.0) _ (short lo e.0 n.lo l done)) before a)
          (all_same down es)
          (each (λ e b. second_off (is_from lo e.0) _ (not_behind ends e.0 b)) behind c))

-- all of the range is taken where the leaf is the last one of its way
takes_all : (r : Range) → TakesBeginning r r None
takes_all r = record {
  way = refl;
  way_left = λ q e. none_some e;
  splits = λ k. or_none (is_in_range r k);
  before = λ j k in_part in_rest. false_true in_rest;
}

-- The pairs of a leaf within a range are those of the tree within a beginning of the range, and what lies behind the leaf is the rest
module _ (n : Node) (before es behind all : List (Key × Key)) (is : all ≡ before ++ (es ++ behind)) (a : AllByRecursion (λ e. Below e.0 n.lo) before) (b : AllByRecursion (λ e. Covers n e.0) es) (c : AllByRecursion (λ e. (n.hi ≡ [] → ⊥) × UpTo n.hi e.0) behind) where
  abbrev IsRead : Range → Option Range → Type 0
  IsRead r rest = (part : Range) × TakesBeginning r part rest × (pairs_in r es ≡ pairs_in part all)

  reads_up : (lo hi : Bound Key) (k : Key) → IsStart lo k → UpTo n.lo k → (n.hi ≡ []) ⊎ Below k n.hi → (h : Key) → n.hi ≡ h → IsRead (rising lo hi) (range_up h (rising lo hi))
  reads_up lo hi k start begins ends [] last = (rising lo hi, takes_all (rising lo hi), whole_up n lo hi k start begins before es behind all is a last c)
  reads_up lo hi k start begins ends (x ∷ xs) here = true_or_false (is_up_to hi (x ∷ xs))
      (λ goes. (part_up n lo hi k start begins (x ∷ xs) far goes, cut_up n lo hi k start begins (x ∷ xs) far goes, same_up n lo hi k start begins (x ∷ xs) far goes before es behind all is a (each (λ e u. under e.0 u.1) es b) (each (λ e u. subst (λ z. UpTo z e.0) here u.1) behind c)))
      (λ done. (rising lo hi, all_up n lo hi k start begins (x ∷ xs) far done, kept_up n lo hi k start begins (x ∷ xs) far done before es behind all is a (each (λ e u. subst (λ z. UpTo z e.0) here u.1) behind c)))
    where
      far : Below k (x ∷ xs)
      far = elim ends [ inl e ↦ cons_none (sym here ∙ e) | inr l ↦ subst (Below k) here l ]

      under : (j : Key) → (n.hi ≡ []) ⊎ Below j n.hi → Below j (x ∷ xs)
      under j u = elim u [ inl e ↦ cons_none (sym here ∙ e) | inr l ↦ subst (Below j) here l ]

  reads_down : (lo hi : Bound Key) → is_up_to hi n.lo ≡ true → (n.hi ≡ []) ⊎ (is_up_to hi n.hi ≡ false) → (l : Key) → n.lo ≡ l → IsRead (falling lo hi) (range_down l (falling lo hi))
  reads_down lo hi begins ends [] first = (falling lo hi, takes_all (falling lo hi), whole_down n lo hi begins ends before es behind all is a c first)
  reads_down lo hi begins ends (x ∷ xs) here = true_or_false (is_from lo n.lo)
      (λ goes. (part_down n lo hi begins ends goes, subst (λ z. TakesBeginning (falling lo hi) (part_down n lo hi begins ends goes) (Some (record { lo = lo; hi = Excluded z; back = true }))) here (cut_down n lo hi begins ends goes), same_down n lo hi begins ends goes before es behind all is a (each (λ e u. u.0) es b) c))
      (λ done. (falling lo hi, subst (λ z. TakesBeginning (falling lo hi) (falling lo hi) (Some (record { lo = lo; hi = Excluded z; back = true }))) here (all_down n lo hi begins ends done), kept_down n lo hi begins ends done before es behind all is a c))

  pub reads_leaf : (r : Range) (aim : Bound Key) → starts_as r.back r.lo r.hi aim → LiesUnder aim n → IsRead r (range_behind n r)
  reads_leaf r aim start under = go r.lo r.hi r.back start
    where
      go : (lo hi : Bound Key) (back : Bool) → starts_as back lo hi aim → IsRead (record { lo = lo; hi = hi; back = back }) (range_behind n (record { lo = lo; hi = hi; back = back }))
      go lo hi false s =
          let here : LiesUnder (Included s.0) n = subst (λ z. LiesUnder z n) s.1 under in
          reads_up lo hi s.0 s.2 (up_to_key n.lo s.0 here.0) (elim here.1 [ inl e ↦ inl e | inr f ↦ inr (behind_key n.hi s.0 f) ]) n.hi refl
      go lo hi true s = let here : LiesUnder hi n = subst (λ z. LiesUnder z n) s under in reads_down lo hi here.0 here.1 n.lo refl
