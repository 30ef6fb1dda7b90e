-- What a test of equality that says yes tells of lists, pairs, collections, calls and what was made.
use Rattle.std.proofs.Common.{rules, ◌≡◌, ◌∙◌, ℕ, Bool, true, ◌&&◌, nat_eq, eqb-true, List, [], ◌∷◌, map, Option, Some, None, refl, ap}
use Rattle.std.specs.Cmp.Lexicographic.{pointwise}
use Rattle.std.specs.Global.{Vec}
use Rattle.std.specs.Option.{option_eq}
use Rattle.std.specs.Str.{bytes_eq}
use Rattle.sled_nodes.proofs.Basics.{false_true, both_true}
use Rattle.sled_nodes.specs.Order.{Key}
use Rattle.sled_batch.specs.Batch.{Writes}
use Rattle.sled_store.specs.theory.Facts.{same_name}
use Rattle.std.specs.declared.ops.Bound.{Bound}
use Rattle.sled_model.specs.Collections.{Content, contents_of}
use Rattle.sled_model.specs.declared.call.Call.{Call}
use Rattle.sled_model.specs.declared.call.Whole.{Whole}
use Rattle.sled_model.specs.declared.call.Whole.TheVariants.{Flush, PopMin, PopMax, Clear, Group, OpenTree, DropTree, GenerateId, Import, Watch, Next, Unsubscribe}
use Rattle.sled_model.specs.declared.reply.Reply.{Reply}
use Rattle.sled_model.specs.declared.tree.Tree.{Tree}
use Rattle.sled_model.specs.contracts.call.CallPartialEq.TheImpl as call
use Rattle.sled_model.specs.contracts.call.WholePartialEq.TheImpl as whole
use Rattle.sled_model.specs.contracts.reply.ReplyPartialEq.TheImpl as reply
use Rattle.sled_model.specs.contracts.tree.TreePartialEq.TheImpl as tree
use Rattle.sled_model.proofs.Shapes.{content_of}
use Rattle.machine_shared.specs.Made.{PointMade, WholeMade, PartsMade, ReadMade, TransactionMade, made_value, whole_value}
use Rattle.machine_shared.specs.contracts.entry.MadePartialEq.TheImpl as made
use Rattle.machine_shared.specs.contracts.read.AnswerPartialEq.TheImpl as answer
use Rattle.machine_shared.specs.contracts.read.QuestionPartialEq.TheImpl as question
use Rattle.machine_shared.specs.contracts.read.ReadPartialEq.TheImpl as read
use Rattle.machine_shared.specs.declared.read.Answer.{Answer}
use Rattle.machine_shared.specs.declared.read.Answer.TheVariants as answers
use Rattle.machine_shared.specs.declared.read.Question.{Question}
use Rattle.machine_shared.specs.declared.read.Question.TheVariants as asks
use Rattle.machine_shared.specs.declared.read.Read.{Read}
use Rattle.machine_shared.specs.declared.read.Read.TheVariants as reads
use Rattle.machine_shared.proofs.SameContents.{same_content}
use Rattle.machine_shared.specs.declared.entry.Made.{Made}
use Rattle.machine_shared.specs.declared.entry.Made.TheVariants.{Point, Whole as Wholly, Parts, Read as Reading, Transaction}
use Rattle.machine_shared.specs.Wholes as value

abbrev Sound : {X : Type 0} → (X → X → Bool) → Type 0
Sound {X = X} E = (x y : X) → E x y ≡ true → x ≡ y

-- lists that test as equal become equal ones, where their members do
maps_same : {X Y : Type 0} (E : X → X → Bool) (f : X → Y) → ((x y : X) → E x y ≡ true → f x ≡ f y) → (xs ys : List X) → pointwise E xs ys ≡ true → map f xs ≡ map f ys
maps_same E f h [] [] e = refl
maps_same E f h [] (y ∷ ys) e = false_true e
maps_same E f h (x ∷ xs) [] e = false_true e
maps_same E f h (x ∷ xs) (y ∷ ys) e = let both = both_true (E x y) (pointwise E xs ys) e in ap (λ z. z ∷ map f xs) (h x y both.0) ∙ ap (λ zs. f y ∷ zs) (maps_same E f h xs ys both.1)

lists_same : {X : Type 0} (E : X → X → Bool) → Sound E → Sound (pointwise E)
lists_same E h [] [] e = refl
lists_same E h [] (y ∷ ys) e = false_true e
lists_same E h (x ∷ xs) [] e = false_true e
lists_same E h (x ∷ xs) (y ∷ ys) e = let both = both_true (E x y) (pointwise E xs ys) e in ap (λ z. z ∷ xs) (h x y both.0) ∙ ap (λ zs. y ∷ zs) (lists_same E h xs ys both.1)

options_same : {X : Type 0} (E : X → X → Bool) → Sound E → Sound (option_eq E)
options_same E h None None e = refl
options_same E h None (Some y) e = false_true e
options_same E h (Some x) None e = false_true e
options_same E h (Some x) (Some y) e = ap Some (h x y e)

tuples_same : {X Y : Type 0} (E : X → X → Bool) (F : Y → Y → Bool) → Sound E → Sound F → (p q : X × Y) → (E p.0 q.0 && F p.1 q.1) ≡ true → p ≡ q
tuples_same E F h k (a, b) (c, d) e = let both = both_true (E a c) (F b d) e in ap (λ z. (z, b)) (h a c both.0) ∙ ap (λ z. (c, z)) (k b d both.1)

writes_same : (xs ys : List (Key × Option Key)) → pointwise (λ (p q : Key × Option Key). bytes_eq p.0 q.0 && option_eq bytes_eq p.1 q.1) xs ys ≡ true → xs ≡ ys
writes_same xs ys e = lists_same (λ (p q : Key × Option Key). bytes_eq p.0 q.0 && option_eq bytes_eq p.1 q.1) (tuples_same bytes_eq (option_eq bytes_eq) same_name (options_same bytes_eq same_name)) xs ys e

-- collections, wherever their vectors lie
module _ (a b : Vec ℕ × Vec ℕ × Vec (Key × Key)) where
  abbrev kinds : Bool
  kinds = pointwise nat_eq a.0.items b.0.items

  abbrev names : Bool
  names = pointwise nat_eq a.1.items b.1.items

  abbrev pairs : Bool
  pairs = pointwise (λ (p q : Key × Key). bytes_eq p.0 q.0 && bytes_eq p.1 q.1) a.2.items b.2.items

  contents_same : (kinds && names) && pairs ≡ true → content_of a ≡ content_of b
  contents_same e =
      let all = both_true (kinds && names) pairs e in
      let both = both_true kinds names all.0 in
      ap (λ z. (z, a.1.items, a.2.items)) (same_name _ _ both.0)
      ∙ ap (λ z. (b.0.items, z, a.2.items)) (same_name _ _ both.1)
      ∙ ap (λ z. (b.0.items, b.1.items, z)) (lists_same (λ (p q : Key × Key). bytes_eq p.0 q.0 && bytes_eq p.1 q.1) (tuples_same bytes_eq bytes_eq same_name same_name) a.2.items b.2.items all.1)

pub collections_same : (xs ys : List (Vec ℕ × Vec ℕ × Vec (Key × Key))) → pointwise (λ a b. (kinds a b && names a b) && pairs a b) xs ys ≡ true → contents_of xs ≡ contents_of ys
collections_same xs ys e = maps_same _ content_of contents_same xs ys e

trees_same : Sound tree.ghosts.eq
trees_same t u e =
    let a = both_true (bytes_eq t.database u.database) _ e in
    let b = both_true (bytes_eq t.name u.name) (nat_eq t.number u.number) a.1 in
    λ i. record { database = same_name t.database u.database a.0 i; name = same_name t.name u.name b.0 i; number = eqb-true t.number u.number b.1 i }

wholes_same : (a b : Whole) → whole.ghosts.eq a b ≡ true → whole_value a ≡ whole_value b
wholes_same Flush Flush e = refl
wholes_same (PopMin t) (PopMin u) e = ap value.PopMin (trees_same t u e)
wholes_same (PopMax t) (PopMax u) e = ap value.PopMax (trees_same t u e)
wholes_same (Clear t) (Clear u) e = ap value.Clear (trees_same t u e)
wholes_same (Group xs) (Group ys) e = ap value.Group (lists_same _ (tuples_same _ _ trees_same writes_same) xs.items ys.items e)
wholes_same (OpenTree n) (OpenTree m) e = ap value.OpenTree (same_name n m e)
wholes_same (DropTree n) (DropTree m) e = ap value.DropTree (same_name n m e)
wholes_same GenerateId GenerateId e = refl
wholes_same (Import xs) (Import ys) e = ap value.Import (collections_same xs.items ys.items e)
wholes_same (Watch t p) (Watch u q) e = let both = both_true (tree.ghosts.eq t u) (bytes_eq p q) e in ap (λ z. value.Watch z p) (trees_same t u both.0) ∙ ap (λ z. value.Watch u z) (same_name p q both.1)
wholes_same (Next n) (Next m) e = ap value.Next (eqb-true n m e)
wholes_same (Unsubscribe n) (Unsubscribe m) e = ap value.Unsubscribe (eqb-true n m e)
wholes_same a b e = false_true e

calls_same : (a b : Call) → call.ghosts.eq a b ≡ true → a ≡ b
calls_same a b e = search rules

replies_same : (a b : Reply) → reply.ghosts.eq a b ≡ true → a ≡ b
replies_same a b e = search rules

pairs_same : (xs ys : List (Key × Key)) → pointwise (λ (p q : Key × Key). bytes_eq p.0 q.0 && bytes_eq p.1 q.1) xs ys ≡ true → xs ≡ ys
pairs_same xs ys e = lists_same (λ (p q : Key × Key). bytes_eq p.0 q.0 && bytes_eq p.1 q.1) (tuples_same bytes_eq bytes_eq same_name same_name) xs ys e

exports_same : (a b : Content) → same_content a b ≡ true → a ≡ b
exports_same (k, n, ps) (l, m, qs) e =
    let all = both_true (bytes_eq k l && bytes_eq n m) (pointwise (λ (p q : Key × Key). bytes_eq p.0 q.0 && bytes_eq p.1 q.1) ps qs) e in
    let both = both_true (bytes_eq k l) (bytes_eq n m) all.0 in
    ap (λ z. (z, n, ps)) (same_name k l both.0) ∙ ap (λ z. (l, z, ps)) (same_name n m both.1) ∙ ap (λ z. (l, m, z)) (pairs_same ps qs all.1)

pages_same : (lo hi low high : Bound Key) (back down : Bool) (most more : ℕ) → question.ghosts.eq (asks.Page lo hi back most) (asks.Page low high down more) ≡ true → asks.Page lo hi back most ≡ asks.Page low high down more
pages_same lo hi low high back down most more e = search rules

questions_same : (a b : Question) → question.ghosts.eq a b ≡ true → a ≡ b
questions_same (asks.Get k) (asks.Get l) e = ap asks.Get (same_name k l e)
questions_same (asks.ContainsKey k) (asks.ContainsKey l) e = ap asks.ContainsKey (same_name k l e)
questions_same asks.First asks.First e = refl
questions_same asks.Last asks.Last e = refl
questions_same (asks.GetLt k) (asks.GetLt l) e = ap asks.GetLt (same_name k l e)
questions_same (asks.GetGt k) (asks.GetGt l) e = ap asks.GetGt (same_name k l e)
questions_same asks.Len asks.Len e = refl
questions_same asks.IsEmpty asks.IsEmpty e = refl
questions_same (asks.Page lo hi back most) (asks.Page low high down more) e = pages_same lo hi low high back down most more e
questions_same a b e = false_true e

flags_same : (x y : Bool) → answer.ghosts.eq (answers.Flag x) (answers.Flag y) ≡ true → answers.Flag x ≡ answers.Flag y
flags_same x y e = search rules

answers_same : (a b : Answer) → answer.ghosts.eq a b ≡ true → a ≡ b
answers_same (answers.Value x) (answers.Value y) e = ap answers.Value (options_same bytes_eq same_name x y e)
answers_same (answers.Flag x) (answers.Flag y) e = flags_same x y e
answers_same (answers.Pair x) (answers.Pair y) e = ap answers.Pair (options_same (λ (p q : Key × Key). bytes_eq p.0 q.0 && bytes_eq p.1 q.1) (tuples_same bytes_eq bytes_eq same_name same_name) x y e)
answers_same (answers.Count n) (answers.Count m) e = ap answers.Count (eqb-true n m e)
answers_same (answers.Pairs x) (answers.Pairs y) e = ap answers.Pairs (pairs_same x y e)
answers_same a b e = false_true e

reads_same : (a b : Read) → read.ghosts.eq a b ≡ true → a ≡ b
reads_same (reads.Tree t q a) (reads.Tree u r b) e =
    let both = both_true (tree.ghosts.eq t u) (question.ghosts.eq q r && answer.ghosts.eq a b) e in
    let more = both_true (question.ghosts.eq q r) (answer.ghosts.eq a b) both.1 in
    ap (λ z. reads.Tree z q a) (trees_same t u both.0) ∙ ap (λ z. reads.Tree u z a) (questions_same q r more.0) ∙ ap (λ z. reads.Tree u r z) (answers_same a b more.1)
reads_same (reads.Names x) (reads.Names y) e = ap reads.Names (lists_same bytes_eq same_name x y e)
reads_same (reads.Export x) (reads.Export y) e = ap reads.Export (lists_same same_content exports_same x y e)
reads_same a b e = false_true e

values_same : Sound (pointwise (option_eq bytes_eq))
values_same xs ys e = lists_same (option_eq bytes_eq) (options_same bytes_eq same_name) xs ys e

batches_same : (xs ys : List (Tree × Writes)) → pointwise (λ (p q : Tree × Writes). tree.ghosts.eq p.0 q.0 && pointwise (λ (p q : Key × Option Key). bytes_eq p.0 q.0 && option_eq bytes_eq p.1 q.1) p.1 q.1) xs ys ≡ true → xs ≡ ys
batches_same xs ys e = lists_same _ (tuples_same _ _ trees_same writes_same) xs ys e

groups_same : (xs ys : Vec (Tree × Writes)) (vs ws : Vec (Option Key)) → made.ghosts.eq (Transaction xs vs) (Transaction ys ws) ≡ true → made_value (Transaction xs vs) ≡ made_value (Transaction ys ws)
groups_same xs ys vs ws e =
    let both = both_true (pointwise (λ (p q : Tree × Writes). tree.ghosts.eq p.0 q.0 && pointwise (λ (p q : Key × Option Key). bytes_eq p.0 q.0 && option_eq bytes_eq p.1 q.1) p.1 q.1) xs.items ys.items) (pointwise (option_eq bytes_eq) vs.items ws.items) e in
    ap (λ z. TransactionMade z vs.items) (batches_same xs.items ys.items both.0) ∙ ap (λ z. TransactionMade ys.items z) (values_same vs.items ws.items both.1)

pub mades_same : (a b : Made) → made.ghosts.eq a b ≡ true → made_value a ≡ made_value b
mades_same (Point t c r) (Point u d s) e =
    let both = both_true (tree.ghosts.eq t u) (call.ghosts.eq c d && reply.ghosts.eq r s) e in
    let more = both_true (call.ghosts.eq c d) (reply.ghosts.eq r s) both.1 in
    ap (λ z. PointMade z c r) (trees_same t u both.0) ∙ ap (λ z. PointMade u z r) (calls_same c d more.0) ∙ ap (λ z. PointMade u d z) (replies_same r s more.1)
mades_same (Wholly w r) (Wholly x s) e = let both = both_true (whole.ghosts.eq w x) (reply.ghosts.eq r s) e in ap (λ z. WholeMade z r) (wholes_same w x both.0) ∙ ap (λ z. WholeMade (whole_value x) z) (replies_same r s both.1)
mades_same (Parts w n) (Parts x m) e = let both = both_true (whole.ghosts.eq w x) (nat_eq n m) e in ap (λ z. PartsMade z n) (wholes_same w x both.0) ∙ ap (λ z. PartsMade (whole_value x) z) (eqb-true n m both.1)
mades_same (Reading a) (Reading b) e = ap ReadMade (reads_same a b e)
mades_same (Transaction xs vs) (Transaction ys ws) e = groups_same xs ys vs ws e
mades_same a b e = false_true e
