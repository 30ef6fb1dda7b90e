-- What is written is read again.
use Rattle.std.proofs.Common.{◌≡◌, ℕ, zero, suc, ◌≤◌, List, [], ◌∷◌, ◌++◌, length, take, drop, refl, ap, subst, ◌∙◌, append_assoc, arith, Bool, true, false, Option, Some, None, IfSome, Result, Ok, Err, if◌then◌else◌, nat_lt}
use Rattle.std.specs.List.{flat_map, All}
use Rattle.std.specs.Int.{w64, from_le_bytes}
use Rattle.std.proofs.lemmas.Bool.{le-ltb}
use Rattle.std.proofs.lemmas.List.{take_at, drop_at, length-append}
use Rattle.std.proofs.lemmas.List.Elements.{All-head, All-tail}
use Rattle.std.proofs.lemmas.Nat.{from_le_bytes-to_le_bytes_8}
use Rattle.sled_nodes.specs.Order.{Key}
use Rattle.sled_nodes.specs.Node.{pairs, pointers, count}
use Rattle.sled_nodes.specs.declared.node.Node.{Node}
use Rattle.sled_nodes.specs.declared.node.Data.{Data}
use Rattle.sled_nodes.specs.declared.node.Data.TheVariants.{Leaf, Index}
use Rattle.sled_nodes.specs.declared.link.Link.{Link}
use Rattle.sled_nodes.specs.declared.link.Link.TheVariants.{Set, Del, ParentMergeIntention, ParentMergeConfirm, ChildMergeCap}
use Rattle.sled_bytes.specs.declared.change.Change.{Change}
use Rattle.sled_bytes.specs.declared.change.Change.TheVariants.{Given, Linked, Freed, Rooted, Begun, Sealed, Marked, Limited}
use Rattle.sled_bytes.specs.declared.refusal.Flaw.{Flaw}
use Rattle.sled_bytes.specs.declared.refusal.Refusal.{Refusal}
use Rattle.sled_bytes.specs.declared.refusal.Flaw.TheVariants.{Short}
use Rattle.sled_bytes.specs.Spelling.{number, string, flag, optional, pair, pointer, several, content_bytes, bounds_bytes, kin_bytes, node_bytes, link_bytes, numbers, change_bytes, FitsNumber, FitsString, FitsPair, FitsPointer, FitsBytes, FitsLink, FitsChange}
use Rattle.sled_bytes.specs.Reading.{Read, Gives, then_read, number_at, bytes_at, string_at, byte_at, flag_at, optional_at, pair_at, pointer_at, each_at, leaf_at, index_at, content_at, node_at, set_at, del_at, intention_at, link_of_kind, link_at, given_at, linked_at, freed_at, rooted_at, marked_at, limited_at, change_of_kind, change_at, changes_from, changes_of, NodeIsReadAgain, ChangeIsReadAgain, ChangesAreReadAgain}
use Rattle.sled_bytes.proofs.Several.{one_more}

-- what was read goes to what comes next
on : {A B : Type 0} {read : Result A Flaw} {x : A} (next : A → Result B Flaw) → read ≡ Ok x → (then_read read next) ≡ next x
on next h = ap (λ r. then_read r next) h

enough : (a b : List ℕ) → nat_lt (length (a ++ b)) (length a) ≡ false
enough a b = le-ltb (length (a ++ b)) (length a) (omega (arith, length-append a b))

number_again : (n : ℕ) (rest : List ℕ) → FitsNumber n → number_at (number n ++ rest) ≡ Ok (n, rest)
unfolding number
number_again n rest fits =
    let bytes = number n ++ rest in
    ap (λ b. if b then Err Short else Ok (from_le_bytes w64 (take 8 bytes), drop 8 bytes)) (enough (number n) rest)
    ∙ ap (λ (l : List ℕ). Ok (from_le_bytes w64 l, drop 8 bytes)) (take_at (number n) rest 8 refl)
    ∙ ap (λ (l : List ℕ). Ok (from_le_bytes w64 (number n), l)) (drop_at (number n) rest 8 refl)
    ∙ ap (λ (m : ℕ). Ok (m, rest)) (from_le_bytes-to_le_bytes_8 n fits)

bytes_again : (s rest : List ℕ) → bytes_at (length s) (s ++ rest) ≡ Ok (s, rest)
bytes_again s rest =
    ap (λ b. if b then Err Short else Ok (take (length s) (s ++ rest), drop (length s) (s ++ rest))) (enough s rest)
    ∙ ap (λ (l : List ℕ). Ok (l, drop (length s) (s ++ rest))) (take_at s rest (length s) refl)
    ∙ ap (λ (l : List ℕ). Ok (s, l)) (drop_at s rest (length s) refl)

string_again : (s rest : List ℕ) → FitsString s → string_at (string s ++ rest) ≡ Ok (s, rest)
unfolding string string_at
string_again s rest fits =
    ap string_at (append_assoc (number (length s)) s rest)
    ∙ on (λ n. bytes_at n.0 n.1) (number_again (length s) (s ++ rest) fits)
    ∙ bytes_again s rest

flag_again : (b : Bool) (rest : List ℕ) → flag_at (flag b ++ rest) ≡ Ok (b, rest)
unfolding flag_at byte_at
flag_again true rest = refl
flag_again false rest = refl

optional_again : (o : Option ℕ) (rest : List ℕ) → IfSome o FitsNumber → optional_at (optional o ++ rest) ≡ Ok (o, rest)
unfolding optional_at flag_at byte_at
optional_again None rest fits = refl
optional_again (Some n) rest fits = on (λ m. Ok (Some m.0, m.1)) (number_again n rest fits)

pair_again : (e : Key × Key) (rest : List ℕ) → FitsPair e → pair_at (pair e ++ rest) ≡ Ok (e, rest)
unfolding pair_at
pair_again e rest fits =
    ap pair_at (append_assoc (string e.0) (string e.1) rest)
    ∙ on (λ key. then_read (string_at key.1) (λ value. Ok ((key.0, value.0), value.1))) (string_again e.0 (string e.1 ++ rest) fits.0)
    ∙ on (λ value. Ok ((e.0, value.0), value.1)) (string_again e.1 rest fits.1)

pointer_again : (e : Key × ℕ) (rest : List ℕ) → FitsPointer e → pointer_at (pointer e ++ rest) ≡ Ok (e, rest)
unfolding pointer_at
pointer_again e rest fits =
    ap pointer_at (append_assoc (string e.0) (number e.1) rest)
    ∙ on (λ key. then_read (number_at key.1) (λ pid. Ok ((key.0, pid.0), pid.1))) (string_again e.0 (number e.1 ++ rest) fits.0)
    ∙ on (λ pid. Ok ((e.0, pid.0), pid.1)) (number_again e.1 rest fits.1)

each_again : {X : Type 0} (spell : X → List ℕ) (one : List ℕ → Read X) (P : X → Type 0) → ((x : X) (rest : List ℕ) → P x → one (spell x ++ rest) ≡ Ok (x, rest)) → (xs : List X) (rest : List ℕ) → All P xs → each_at one (length xs) (flat_map spell xs ++ rest) ≡ Ok (xs, rest)
unfolding each_at
each_again spell one P again [] rest all = refl
each_again spell one P again (x ∷ xs) rest all =
    ap (each_at one (suc (length xs))) (append_assoc (spell x) (flat_map spell xs) rest)
    ∙ on (λ first. then_read (each_at one (length xs) first.1) (λ others. Ok (first.0 ∷ others.0, others.1))) (again x (flat_map spell xs ++ rest) (All-head P x xs all))
    ∙ on (λ others. Ok (x ∷ others.0, others.1)) (each_again spell one P again xs rest (All-tail P x xs all))

leaf_again : (es : List (Key × Key)) (rest : List ℕ) → FitsNumber (length es) → All FitsPair es → leaf_at (several pair es ++ rest) ≡ Ok (Leaf es, rest)
unfolding leaf_at
leaf_again es rest many all =
    ap leaf_at (append_assoc (number (length es)) (flat_map pair es) rest)
    ∙ on (λ n. then_read (each_at pair_at n.0 n.1) (λ xs. Ok (Leaf xs.0, xs.1))) (number_again (length es) (flat_map pair es ++ rest) many)
    ∙ on (λ xs. Ok (Leaf xs.0, xs.1)) (each_again pair pair_at FitsPair pair_again es rest all)

index_again : (es : List (Key × ℕ)) (rest : List ℕ) → FitsNumber (length es) → All FitsPointer es → index_at (several pointer es ++ rest) ≡ Ok (Index es, rest)
unfolding index_at
index_again es rest many all =
    ap index_at (append_assoc (number (length es)) (flat_map pointer es) rest)
    ∙ on (λ n. then_read (each_at pointer_at n.0 n.1) (λ xs. Ok (Index xs.0, xs.1))) (number_again (length es) (flat_map pointer es ++ rest) many)
    ∙ on (λ xs. Ok (Index xs.0, xs.1)) (each_again pointer pointer_at FitsPointer pointer_again es rest all)

content_again : (c : Data) (rest : List ℕ) → FitsNumber (count c) → All FitsPair (pairs c) → All FitsPointer (pointers c) → content_at (content_bytes c ++ rest) ≡ Ok (c, rest)
unfolding content_bytes content_at
content_again (Leaf es) rest many all none = on (λ is. if is.0 then index_at is.1 else leaf_at is.1) (flag_again false (several pair es ++ rest)) ∙ leaf_again es rest many all
content_again (Index es) rest many none all = on (λ is. if is.0 then index_at is.1 else leaf_at is.1) (flag_again true (several pointer es ++ rest)) ∙ index_again es rest many all

-- what is written of a node is read again, whatever follows it
pub node_again : NodeIsReadAgain
unfolding node_at bounds_bytes kin_bytes
node_again n rest fits =
    let lo = string n.lo in
    let hi = string n.hi in
    let nx = optional n.next in
    let fl = flag n.merging in
    let ch = optional n.merging_child in
    let ct = content_bytes n.content in
    let kin : ((nx ++ fl) ++ ch) ++ (ct ++ rest) ≡ nx ++ (fl ++ (ch ++ (ct ++ rest))) = append_assoc (nx ++ fl) ch (ct ++ rest) ∙ append_assoc nx fl (ch ++ (ct ++ rest)) in
    let apart : node_bytes n ++ rest ≡ lo ++ (hi ++ (nx ++ (fl ++ (ch ++ (ct ++ rest))))) =
    append_assoc ((lo ++ hi) ++ ((nx ++ fl) ++ ch)) ct rest ∙ append_assoc (lo ++ hi) ((nx ++ fl) ++ ch) (ct ++ rest) ∙ ap (λ (l : List ℕ). (lo ++ hi) ++ l) kin ∙ append_assoc lo hi (nx ++ (fl ++ (ch ++ (ct ++ rest)))) in
    ap node_at apart
    ∙ on _ (string_again n.lo (hi ++ (nx ++ (fl ++ (ch ++ (ct ++ rest))))) fits.lo)
    ∙ on _ (string_again n.hi (nx ++ (fl ++ (ch ++ (ct ++ rest)))) fits.hi)
    ∙ on _ (optional_again n.next (fl ++ (ch ++ (ct ++ rest))) fits.next)
    ∙ on _ (flag_again n.merging (ch ++ (ct ++ rest)))
    ∙ on _ (optional_again n.merging_child (ct ++ rest) fits.merging_child)
    ∙ on _ (content_again n.content rest fits.count fits.pairs fits.pointers)

link_again : (l : Link) (rest : List ℕ) → FitsLink l → link_at (link_bytes l ++ rest) ≡ Ok (l, rest)
unfolding link_at byte_at link_of_kind set_at del_at intention_at
link_again (Set key value) rest fits = on (λ e. Ok (Set e.0.0 e.0.1, e.1)) (pair_again (key, value) rest fits)
link_again (Del key) rest fits = on (λ k. Ok (Del k.0, k.1)) (string_again key rest fits)
link_again (ParentMergeIntention child) rest fits = on (λ c. Ok (ParentMergeIntention c.0, c.1)) (number_again child rest fits)
link_again ParentMergeConfirm rest fits = refl
link_again ChildMergeCap rest fits = refl

numbers_first : (m n : ℕ) (more rest : List ℕ) → (numbers m n ++ more) ++ rest ≡ number m ++ (number n ++ (more ++ rest))
numbers_first m n more rest = append_assoc (numbers m n) more rest ∙ append_assoc (number m) (number n) (more ++ rest)

given_again : (pid version : ℕ) (node : Node) (rest : List ℕ) → FitsNumber pid → FitsNumber version → FitsBytes node → given_at ((numbers pid version ++ node_bytes node) ++ rest) ≡ Ok (Given pid version node, rest)
unfolding given_at
given_again pid version node rest p v n =
    ap given_at (numbers_first pid version (node_bytes node) rest)
    ∙ on _ (number_again pid (number version ++ (node_bytes node ++ rest)) p)
    ∙ on _ (number_again version (node_bytes node ++ rest) v)
    ∙ on _ (node_again node rest n)

linked_again : (pid version : ℕ) (link : Link) (rest : List ℕ) → FitsNumber pid → FitsNumber version → FitsLink link → linked_at ((numbers pid version ++ link_bytes link) ++ rest) ≡ Ok (Linked pid version link, rest)
unfolding linked_at
linked_again pid version link rest p v l =
    ap linked_at (numbers_first pid version (link_bytes link) rest)
    ∙ on _ (number_again pid (number version ++ (link_bytes link ++ rest)) p)
    ∙ on _ (number_again version (link_bytes link ++ rest) v)
    ∙ on _ (link_again link rest l)

freed_again : (pid : ℕ) (rest : List ℕ) → FitsNumber pid → freed_at (number pid ++ rest) ≡ Ok (Freed pid, rest)
unfolding freed_at
freed_again pid rest p = on _ (number_again pid rest p)

rooted_again : (name : Key) (root : Option ℕ) (rest : List ℕ) → FitsString name → IfSome root FitsNumber → rooted_at ((string name ++ optional root) ++ rest) ≡ Ok (Rooted name root, rest)
unfolding rooted_at
rooted_again name root rest n r =
    ap rooted_at (append_assoc (string name) (optional root) rest)
    ∙ on _ (string_again name (optional root ++ rest) n)
    ∙ on _ (optional_again root rest r)

marked_again : (upto : ℕ) (rest : List ℕ) → FitsNumber upto → marked_at (number upto ++ rest) ≡ Ok (Marked upto, rest)
unfolding marked_at
marked_again upto rest u = on _ (number_again upto rest u)

limited_again : (pids versions : ℕ) (rest : List ℕ) → FitsNumber pids → FitsNumber versions → limited_at (numbers pids versions ++ rest) ≡ Ok (Limited pids versions, rest)
unfolding limited_at
limited_again pids versions rest p v =
    ap limited_at (append_assoc (number pids) (number versions) rest)
    ∙ on _ (number_again pids (number versions ++ rest) p)
    ∙ on _ (number_again versions rest v)

-- what is written of a change is read again, whatever follows it
pub change_again : ChangeIsReadAgain
unfolding change_at byte_at change_of_kind
change_again (Given pid version node) rest fits = given_again pid version node rest fits.0 fits.1 fits.2
change_again (Linked pid version link) rest fits = linked_again pid version link rest fits.0 fits.1 fits.2
change_again (Freed pid) rest fits = freed_again pid rest fits
change_again (Rooted name root) rest fits = rooted_again name root rest fits.0 fits.1
change_again Begun rest fits = refl
change_again Sealed rest fits = refl
change_again (Marked upto) rest fits = marked_again upto rest fits
change_again (Limited pids versions) rest fits = limited_again pids versions rest fits.0 fits.1

-- each change has a byte
not_empty : (c : Change) → 1 ≤ length (change_bytes c)
not_empty (Given pid version node) = omega arith
not_empty (Linked pid version link) = omega arith
not_empty (Freed pid) = omega arith
not_empty (Rooted name root) = omega arith
not_empty Begun = omega arith
not_empty Sealed = omega arith
not_empty (Marked upto) = omega arith
not_empty (Limited pids versions) = omega arith

no_fewer : (cs : List Change) → length cs ≤ length (flat_map change_bytes cs)
no_fewer [] = omega arith
no_fewer (c ∷ cs) = omega (arith, not_empty c, no_fewer cs, length-append (change_bytes c) (flat_map change_bytes cs))

some_again : (cs : List Change) (most : ℕ) → length cs ≤ most → All FitsChange cs → changes_from (flat_map change_bytes cs) most ≡ Ok cs
unfolding changes_from
some_again [] most le all = refl
some_again (c ∷ cs) zero le all = absurd (omega arith)
some_again (c ∷ cs) (suc most) le all =
    one_more (change_bytes c ++ flat_map change_bytes cs) (flat_map change_bytes cs) c most (change_again c (flat_map change_bytes cs) (All-head FitsChange c cs all))
    ∙ on (λ others. Ok (c ∷ others)) (some_again cs most (omega arith) (All-tail FitsChange c cs all))

-- what is written of changes, one after the other, is read as these changes
pub changes_again : ChangesAreReadAgain
unfolding changes_of
changes_again cs all = some_again cs (length (flat_map change_bytes cs)) (no_fewer cs) all

-- what a function gives of bytes, where they are known to be these
pub given_of : {X Y : Type 0} (view : X → Y) (r : Result X Refusal) (read known : Result Y Flaw) → Gives view r read → read ≡ known → Gives view r known
given_of view r read known gives is = subst (Gives view r) is gives
