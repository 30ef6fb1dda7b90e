-- What is read is spelled so, each byte of it.
use Rattle.std.proofs.Common.{◌≡◌, ℕ, zero, suc, ◌+◌, ◌<◌, ◌≤◌, ◌^◌, List, [], ◌∷◌, ◌++◌, length, take, drop, get_or, refl, sym, ap, subst, ◌∙◌, append_assoc, arith, Bool, true, false, Option, Some, None, IfSome, Result, Ok, Err, cond, if◌then◌else◌, nat_lt, nat_eq, inl, inr}
use Rattle.std.specs.List.{flat_map, All}
use Rattle.std.specs.Int.{w64, from_le_bytes}
use Rattle.std.proofs.lemmas.Bool.{cases_lt, ltb-false, eqb-true}
use Rattle.std.proofs.lemmas.List.{take-append-drop, length-take, get_or-drop, get_or-take, get_or_past}
use Rattle.std.proofs.lemmas.List.Elements.{All-nil, All-cons}
use Rattle.std.proofs.lemmas.Nat.{le_bytes_8}
use Rattle.sled_nodes.specs.Order.{Key}
use Rattle.sled_nodes.specs.Node.{pairs, pointers, count}
use Rattle.sled_nodes.specs.declared.node.Node.{Node}
use Rattle.sled_nodes.specs.declared.node.Data.{Data}
use Rattle.sled_nodes.specs.declared.node.Data.TheVariants.{Leaf, Index}
use Rattle.sled_bytes.specs.declared.refusal.Flaw.{Flaw}
use Rattle.sled_bytes.specs.declared.refusal.Flaw.TheVariants.{Short, Unknown}
use Rattle.sled_bytes.specs.Spelling.{number, string, flag, optional, pair, pointer, several, content_bytes, bounds_bytes, kin_bytes, node_bytes, FitsNumber, FitsString, FitsPair, FitsPointer, FitsBytes}
use Rattle.sled_bytes.specs.Reading.{Read, then_read, number_at, bytes_at, string_at, byte_at, truth, flag_at, optional_at, pair_at, pointer_at, each_at, leaf_at, index_at, content_at, node_at}

abbrev pub AreBytes : List ℕ → Type 0
AreBytes bytes = (i : ℕ) → get_or bytes i 0 < 256

low_behind : (n : ℕ) (bytes : List ℕ) → AreBytes bytes → AreBytes (drop n bytes)
low_behind n bytes low i = rw get_or-drop (low (n + i))

low_before : (n : ℕ) (bytes : List ℕ) → AreBytes bytes → AreBytes (take n bytes)
low_before n bytes low i =
    elim (cases_lt i n) [
      | inl lt ↦ rw (get_or-take n bytes i 0 lt) (low i)
      | inr le ↦ rw (get_or_past (take n bytes) i 0 (omega (arith, length-take n bytes))) (omega arith)
    ]

-- the value of a step that did not fail
pub read_first : {A B : Type 0} (r : Result A Flaw) (next : A → Result B Flaw) (y : B) → then_read r next ≡ Ok y → (x : A) × (r ≡ Ok x) × (next x ≡ Ok y)
read_first (Ok x) next y e = (x, refl, e)
read_first (Err flaw) next y e = absurd cc

guarded : {A : Type 0} (b : Bool) (flaw : Flaw) (x y : A) → cond b (Err flaw) (Ok x) ≡ Ok y → (b ≡ false) × (x ≡ y)
guarded true flaw x y e = absurd cc
guarded false flaw x y e = (refl, cc)

abbrev done : {A : Type 0} → A → Result A Flaw
done x = Ok x

pub ok_is : {A : Type 0} (x y : A) → done x ≡ done y → x ≡ y
ok_is x y e = cc

-- what a reader took from the front
pub record Taken (bytes text rest : List ℕ) : Type 0 where
  pub parts : bytes ≡ text ++ rest
  pub low : AreBytes rest

pub taken_then : (a x b y c : List ℕ) → Taken a x b → Taken b y c → Taken a (x ++ y) c
taken_then a x b y c p q = record { parts = p.parts ∙ ap (λ (t : List ℕ). x ++ t) q.parts ∙ sym (append_assoc x y c); low = q.low }

pub number_taken : (bytes : List ℕ) (x : ℕ × List ℕ) → AreBytes bytes → number_at bytes ≡ Ok x → Taken bytes (number x.0) x.1 × FitsNumber x.0
unfolding number
number_taken bytes x low e =
    let g = guarded (nat_lt (length bytes) 8) Short (from_le_bytes w64 (take 8 bytes), drop 8 bytes) x e in
    let long : 8 ≤ length bytes = ltb-false _ _ g.0 in
    let front = low_before 8 bytes low in
    let n : ℕ = from_le_bytes w64 (take 8 bytes) in
    let is : number n ≡ take 8 bytes = le_bytes_8 (take 8 bytes) n (omega (arith, length-take 8 bytes)) front refl in
    let fits : n < 2 ^ 64 = omega (arith, front 0, front 1, front 2, front 3, front 4, front 5, front 6, front 7) in
    subst (λ (y : ℕ × List ℕ). Taken bytes (number y.0) y.1 × FitsNumber y.0) g.1
    (record { parts = sym (take-append-drop 8 bytes) ∙ ap (λ (t : List ℕ). t ++ drop 8 bytes) (sym is); low = low_behind 8 bytes low }, fits)

pub string_taken : (bytes : List ℕ) (x : Key × List ℕ) → AreBytes bytes → string_at bytes ≡ Ok x → Taken bytes (string x.0) x.1 × FitsString x.0
unfolding string_at string
string_taken bytes x low e =
    let a = read_first (number_at bytes) (λ n. bytes_at n.0 n.1) x e in
    let n : ℕ = a.0.0 in
    let rest : List ℕ = a.0.1 in
    let t = number_taken bytes a.0 low a.1 in
    let g = guarded (nat_lt (length rest) n) Short (take n rest, drop n rest) x a.2 in
    let long : n ≤ length rest = ltb-false _ _ g.0 in
    let len : length (take n rest) ≡ n = omega (arith, length-take n rest) in
    let second : Taken rest (take n rest) (drop n rest) = record { parts = sym (take-append-drop n rest); low = low_behind n rest t.0.low } in
    let both = taken_then bytes (number n) rest (take n rest) (drop n rest) t.0 second in
    let whole : Taken bytes (number (length (take n rest)) ++ take n rest) (drop n rest) = subst (λ (k : ℕ). Taken bytes (number k ++ take n rest) (drop n rest)) (sym len) both in
    subst (λ (y : Key × List ℕ). Taken bytes (string y.0) y.1 × FitsString y.0) g.1 (whole, omega (arith, t.1))

pub byte_taken : (bytes : List ℕ) (x : ℕ × List ℕ) → AreBytes bytes → byte_at bytes ≡ Ok x → Taken bytes (x.0 ∷ []) x.1
unfolding byte_at
byte_taken [] x low e = absurd cc
byte_taken (b ∷ bytes) x low e = subst (λ (y : ℕ × List ℕ). Taken (b ∷ bytes) (y.0 ∷ []) y.1) (ok_is (b, bytes) x e) (record { parts = refl; low = λ i. low (suc i) })

tested : (b : ℕ) (is_zero is_one is : Bool) → nat_eq b 0 ≡ is_zero → nat_eq b 1 ≡ is_one → (if is_zero then done false else if is_one then done true else Err Unknown) ≡ Ok is → b ∷ [] ≡ flag is
tested b true is_one is z o e = ap (λ (k : ℕ). k ∷ []) (eqb-true b 0 z) ∙ ap flag (ok_is false is e)
tested b false true is z o e = ap (λ (k : ℕ). k ∷ []) (eqb-true b 1 o) ∙ ap flag (ok_is true is e)
tested b false false is z o e = absurd cc

true_flag : (b : ℕ) (is : Bool) → truth b ≡ Ok is → b ∷ [] ≡ flag is
true_flag b is e = tested b (nat_eq b 0) (nat_eq b 1) is refl refl e

pub flag_taken : (bytes : List ℕ) (x : Bool × List ℕ) → AreBytes bytes → flag_at bytes ≡ Ok x → Taken bytes (flag x.0) x.1
unfolding flag_at
flag_taken bytes x low e =
    let a = read_first (byte_at bytes) (λ b. then_read (truth b.0) (λ is. Ok (is, b.1))) x e in
    let b = read_first (truth a.0.0) (λ is. Ok (is, a.0.1)) x a.2 in
    let t = byte_taken bytes a.0 low a.1 in
    subst (λ (y : Bool × List ℕ). Taken bytes (flag y.0) y.1) (ok_is (b.0, a.0.1) x b.2) (subst (λ (l : List ℕ). Taken bytes l a.0.1) (true_flag a.0.0 b.0 b.1) t)

optional_of : (bytes : List ℕ) (some : Bool) (rest : List ℕ) (x : Option ℕ × List ℕ) → Taken bytes (flag some) rest → (if some then then_read (number_at rest) (λ n. Ok (Some n.0, n.1)) else Ok (None, rest)) ≡ Ok x → Taken bytes (optional x.0) x.1 × IfSome x.0 FitsNumber
optional_of bytes true rest x t e =
    let a = read_first (number_at rest) (λ n. Ok (Some n.0, n.1)) x e in
    let n = number_taken rest a.0 t.low a.1 in
    subst (λ (y : Option ℕ × List ℕ). Taken bytes (optional y.0) y.1 × IfSome y.0 FitsNumber) (ok_is (Some a.0.0, a.0.1) x a.2) (taken_then bytes (flag true) rest (number a.0.0) a.0.1 t n.0, n.1)
optional_of bytes false rest x t e = subst (λ (y : Option ℕ × List ℕ). Taken bytes (optional y.0) y.1 × IfSome y.0 FitsNumber) (ok_is (None, rest) x e) (t, tt)

pub optional_taken : (bytes : List ℕ) (x : Option ℕ × List ℕ) → AreBytes bytes → optional_at bytes ≡ Ok x → Taken bytes (optional x.0) x.1 × IfSome x.0 FitsNumber
unfolding optional_at
optional_taken bytes x low e =
    let a = read_first (flag_at bytes) (λ some. if some.0 then then_read (number_at some.1) (λ n. Ok (Some n.0, n.1)) else Ok (None, some.1)) x e in
    optional_of bytes a.0.0 a.0.1 x (flag_taken bytes a.0 low a.1) a.2

pub pair_taken : (bytes : List ℕ) (x : (Key × Key) × List ℕ) → AreBytes bytes → pair_at bytes ≡ Ok x → Taken bytes (pair x.0) x.1 × FitsPair x.0
unfolding pair_at
pair_taken bytes x low e =
    let a = read_first (string_at bytes) (λ key. then_read (string_at key.1) (λ value. Ok ((key.0, value.0), value.1))) x e in
    let b = read_first (string_at a.0.1) (λ value. Ok ((a.0.0, value.0), value.1)) x a.2 in
    let t = string_taken bytes a.0 low a.1 in
    let u = string_taken a.0.1 b.0 t.0.low b.1 in
    subst (λ (y : (Key × Key) × List ℕ). Taken bytes (pair y.0) y.1 × FitsPair y.0) (ok_is ((a.0.0, b.0.0), b.0.1) x b.2) (taken_then bytes (string a.0.0) a.0.1 (string b.0.0) b.0.1 t.0 u.0, (t.1, u.1))

pub pointer_taken : (bytes : List ℕ) (x : (Key × ℕ) × List ℕ) → AreBytes bytes → pointer_at bytes ≡ Ok x → Taken bytes (pointer x.0) x.1 × FitsPointer x.0
unfolding pointer_at
pointer_taken bytes x low e =
    let a = read_first (string_at bytes) (λ key. then_read (number_at key.1) (λ pid. Ok ((key.0, pid.0), pid.1))) x e in
    let b = read_first (number_at a.0.1) (λ pid. Ok ((a.0.0, pid.0), pid.1)) x a.2 in
    let t = string_taken bytes a.0 low a.1 in
    let u = number_taken a.0.1 b.0 t.0.low b.1 in
    subst (λ (y : (Key × ℕ) × List ℕ). Taken bytes (pointer y.0) y.1 × FitsPointer y.0) (ok_is ((a.0.0, b.0.0), b.0.1) x b.2) (taken_then bytes (string a.0.0) a.0.1 (number b.0.0) b.0.1 t.0 u.0, (t.1, u.1))

-- what a list that was read has: its bytes, its length, and entries that fit
pub record EachTaken {X : Type 0} (spell : X → List ℕ) (P : X → Type 0) (n : ℕ) (bytes : List ℕ) (x : List X × List ℕ) : Type 0 where
  pub taken : Taken bytes (flat_map spell x.0) x.1
  pub many : length x.0 ≡ n
  pub fit : All P x.0

pub each_taken : {X : Type 0} (spell : X → List ℕ) (one : List ℕ → Read X) (P : X → Type 0) → ((bytes : List ℕ) (x : X × List ℕ) → AreBytes bytes → one bytes ≡ Ok x → Taken bytes (spell x.0) x.1 × P x.0) → (n : ℕ) (bytes : List ℕ) (x : List X × List ℕ) → AreBytes bytes → each_at one n bytes ≡ Ok x → EachTaken spell P n bytes x
unfolding each_at
each_taken {X} spell one P takes zero bytes x low e = subst (EachTaken spell P 0 bytes) (ok_is ([], bytes) x e) (record { taken = record { parts = refl; low = low }; many = refl; fit = All-nil P })
each_taken {X} spell one P takes (suc n) bytes x low e =
    let a = read_first (one bytes) (λ first. then_read (each_at one n first.1) (λ others. Ok (first.0 ∷ others.0, others.1))) x e in
    let b = read_first (each_at one n a.0.1) (λ others. Ok (a.0.0 ∷ others.0, others.1)) x a.2 in
    let t = takes bytes a.0 low a.1 in
    let u = each_taken spell one P takes n a.0.1 b.0 t.0.low b.1 in
    subst (EachTaken spell P (suc n) bytes) (ok_is (a.0.0 ∷ b.0.0, b.0.1) x b.2)
    (record { taken = taken_then bytes (spell a.0.0) a.0.1 (flat_map spell b.0.0) b.0.1 t.0 u.taken; many = ap suc u.many; fit = All-cons P a.0.0 b.0.0 t.1 u.fit })

-- entries behind their count
pub several_taken : {X : Type 0} (spell : X → List ℕ) (one : List ℕ → Read X) (P : X → Type 0) → ((bytes : List ℕ) (x : X × List ℕ) → AreBytes bytes → one bytes ≡ Ok x → Taken bytes (spell x.0) x.1 × P x.0) → (bytes : List ℕ) (n : ℕ × List ℕ) (x : List X × List ℕ) → AreBytes bytes → number_at bytes ≡ Ok n → each_at one n.0 n.1 ≡ Ok x → Taken bytes (several spell x.0) x.1 × FitsNumber (length x.0) × All P x.0
several_taken spell one P takes bytes n x low first others =
    let t = number_taken bytes n low first in
    let u = each_taken spell one P takes n.0 n.1 x t.0.low others in
    (subst (λ (k : ℕ). Taken bytes (number k ++ flat_map spell x.0) x.1) (sym u.many) (taken_then bytes (number n.0) n.1 (flat_map spell x.0) x.1 t.0 u.taken), subst FitsNumber (sym u.many) t.1, u.fit)

-- what entries have that fit
pub record FitsContent (c : Data) : Type 0 where
  pub count : FitsNumber (count c)
  pub pairs : All FitsPair (pairs c)
  pub pointers : All FitsPointer (pointers c)

content_of : (bytes : List ℕ) (is_index : Bool) (rest : List ℕ) (x : Data × List ℕ) → Taken bytes (flag is_index) rest → (if is_index then index_at rest else leaf_at rest) ≡ Ok x → Taken bytes (content_bytes x.0) x.1 × FitsContent x.0
unfolding content_bytes leaf_at index_at
content_of bytes true rest x t e =
    let a = read_first (number_at rest) (λ n. then_read (each_at pointer_at n.0 n.1) (λ es. Ok (Index es.0, es.1))) x e in
    let b = read_first (each_at pointer_at a.0.0 a.0.1) (λ es. Ok (Index es.0, es.1)) x a.2 in
    let u = several_taken pointer pointer_at FitsPointer pointer_taken rest a.0 b.0 t.low a.1 b.1 in
    subst (λ (y : Data × List ℕ). Taken bytes (content_bytes y.0) y.1 × FitsContent y.0) (ok_is (Index b.0.0, b.0.1) x b.2)
    (taken_then bytes (flag true) rest (several pointer b.0.0) b.0.1 t u.0, record { count = u.1; pairs = All-nil FitsPair; pointers = u.2 })
content_of bytes false rest x t e =
    let a = read_first (number_at rest) (λ n. then_read (each_at pair_at n.0 n.1) (λ es. Ok (Leaf es.0, es.1))) x e in
    let b = read_first (each_at pair_at a.0.0 a.0.1) (λ es. Ok (Leaf es.0, es.1)) x a.2 in
    let u = several_taken pair pair_at FitsPair pair_taken rest a.0 b.0 t.low a.1 b.1 in
    subst (λ (y : Data × List ℕ). Taken bytes (content_bytes y.0) y.1 × FitsContent y.0) (ok_is (Leaf b.0.0, b.0.1) x b.2)
    (taken_then bytes (flag false) rest (several pair b.0.0) b.0.1 t u.0, record { count = u.1; pairs = u.2; pointers = All-nil FitsPointer })

pub content_taken : (bytes : List ℕ) (x : Data × List ℕ) → AreBytes bytes → content_at bytes ≡ Ok x → Taken bytes (content_bytes x.0) x.1 × FitsContent x.0
unfolding content_at
content_taken bytes x low e =
    let a = read_first (flag_at bytes) (λ is_index. if is_index.0 then index_at is_index.1 else leaf_at is_index.1) x e in
    content_of bytes a.0.0 a.0.1 x (flag_taken bytes a.0 low a.1) a.2

-- a node that is read is spelled so
pub node_taken : (bytes : List ℕ) (x : Node × List ℕ) → AreBytes bytes → node_at bytes ≡ Ok x → Taken bytes (node_bytes x.0) x.1 × FitsBytes x.0
unfolding node_at bounds_bytes kin_bytes
node_taken bytes x low e =
    let a = read_first (string_at bytes) _ x e in
    let b = read_first (string_at a.0.1) _ x a.2 in
    let c = read_first (optional_at b.0.1) _ x b.2 in
    let d = read_first (flag_at c.0.1) _ x c.2 in
    let f = read_first (optional_at d.0.1) _ x d.2 in
    let g = read_first (content_at f.0.1) _ x f.2 in
    let lo = string_taken bytes a.0 low a.1 in
    let hi = string_taken a.0.1 b.0 lo.0.low b.1 in
    let next = optional_taken b.0.1 c.0 hi.0.low c.1 in
    let merging = flag_taken c.0.1 d.0 next.0.low d.1 in
    let child = optional_taken d.0.1 f.0 merging.low f.1 in
    let content = content_taken f.0.1 g.0 child.0.low g.1 in
    let bounds = taken_then bytes (string a.0.0) a.0.1 (string b.0.0) b.0.1 lo.0 hi.0 in
    let two = taken_then b.0.1 (optional c.0.0) c.0.1 (flag d.0.0) d.0.1 next.0 merging in
    let kin = taken_then b.0.1 (optional c.0.0 ++ flag d.0.0) d.0.1 (optional f.0.0) f.0.1 two child.0 in
    let most = taken_then bytes (string a.0.0 ++ string b.0.0) b.0.1 ((optional c.0.0 ++ flag d.0.0) ++ optional f.0.0) f.0.1 bounds kin in
    let all = taken_then bytes ((string a.0.0 ++ string b.0.0) ++ ((optional c.0.0 ++ flag d.0.0) ++ optional f.0.0)) f.0.1 (content_bytes g.0.0) g.0.1 most content.0 in
    let node : Node = record { lo = a.0.0; hi = b.0.0; next = c.0.0; merging = d.0.0; merging_child = f.0.0; content = g.0.0 } in
    subst (λ (y : Node × List ℕ). Taken bytes (node_bytes y.0) y.1 × FitsBytes y.0) (ok_is (node, g.0.1) x g.2)
    (all, record { lo = lo.1; hi = hi.1; next = next.1; merging_child = child.1; count = content.1.count; pairs = content.1.pairs; pointers = content.1.pointers })
