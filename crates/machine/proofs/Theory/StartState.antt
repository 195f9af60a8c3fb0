-- The start of a run: the submission's terms as nodes, the knowledge and the guess in the first registers.
use mathlib.Core.Path.{◌≡◌, refl, sym, ap, ap₂, ◌∙◌, subst}
use mathlib.Core.Bool.{true, cond, false≢true}
use mathlib.Core.List.{List, [], ◌∷◌, ◌++◌}
use mathlib.Core.Option.{some}
use Prim.Native.Nat.{ℕ, ◌+◌, ◌*◌, ◌<◌}
use native.Mathlib.Omega.{arith}
use lib.ListN.{length, get_or, length-set}
use Rattle.base.specs.Words.{grow, listed}
use Rattle.base.proofs.Grow.{grow_alike}
use Rattle.term.specs.Term.{Kind, atom_kind, atom, leaf, message, void, decoded}
use Rattle.term.specs.{Number.shape_of}
use Rattle.term.specs.Code.{kind_is, is_unary, builder_of, Table}
use Rattle.submission.specs.declared.Term.{Term as TermRead}
use Rattle.submission.specs.Record.{terms, entries, entry_at, guess, kind_at, record_of, record_at, term, guessed}
use Rattle.submission.specs.Code.{IsTerm, SubmissionRead}
use Rattle.submission.proofs.Theory.ListedTerms.{claim_facts}
use Rattle.machine.specs.declared.Node.{Node}
use Rattle.std.specs.Prelude.{Option as Maybe, Some, None}
use Rattle.machine.specs.Run.{initial, registers}
use Rattle.machine.specs.declared.Machine.{Machine}
use Rattle.term.specs.declared.kind.Kind.{Kind as KindRead}
use Rattle.term.specs.declared.kind.Kind.TheVariants.{Plain, Public, Private, Pair, Enc, Enca, Hash}
use Rattle.machine.specs.declared.Head.TheVariants.{Atom, Word}
use Rattle.machine.specs.Code.{kind_for, atom_head, record_for, node_for, node_of, Finds, Placed, Loaded, Started, guess_node}
use Rattle.machine.proofs.Theory.StateMeaning.{node_at, term_at, register, values, SoundState, HasTerms, Running}
use Rattle.machine.proofs.Theory.NodeRecords.{atom_record, term_record}
use Rattle.machine.proofs.Theory.StateGrowth.{decoded_alike, nodes_stay, Fit}
use Rattle.machine.proofs.Theory.NodeSearch.{Absent, nodes_many, placed_gives}
use Rattle.term.specs.Computed.{is_atomic}

-- ---- the node of a record
-- the node of an atom, and that of a compound term, by the kind
at_atom : (k : KindRead) → builder_of (some (kind_is k)) ≡ None → (n x y : ℕ) → record { head = Atom k; left = n; right = 0 } ≡ node_for (record_of (some (kind_is k)) n x y)
at_atom Plain e n x y = refl
at_atom Public e n x y = refl
at_atom Private e n x y = refl
at_atom Pair e n x y = cc
at_atom Enc e n x y = cc
at_atom Enca e n x y = cc
at_atom Hash e n x y = cc

at_word : (k : KindRead) {h : ℕ} → builder_of (some (kind_is k)) ≡ Some h → (n x y : ℕ) →
    record { head = Word h; left = x; right = cond (is_unary (some (kind_is k))) x y } ≡ node_for (record_of (some (kind_is k)) n x y)
at_word Plain e n x y = cc
at_word Public e n x y = cc
at_word Private e n x y = cc
at_word Pair {h} e n x y = let d : h ≡ 0 = cc in rw d
at_word Enc {h} e n x y = let d : h ≡ 3 = cc in rw d
at_word Enca {h} e n x y = let d : h ≡ 5 = cc in rw d
at_word Hash {h} e n x y = let d : h ≡ 7 = cc in rw d

atom_for : (k : KindRead) → is_atomic (some (kind_is k)) ≡ true → k ≡ kind_for (atom_kind (some (kind_is k)))
atom_for Plain e = refl
atom_for Public e = refl
atom_for Private e = refl
atom_for Pair e = absurd (false≢true e)
atom_for Enc e = absurd (false≢true e)
atom_for Enca e = absurd (false≢true e)
atom_for Hash e = absurd (false≢true e)

module _ {s r : List ℕ} {t : ℕ} {z : TermRead} (k : KindRead) (e : r ≡ s) (i : IsTerm r t z) (d : shape_of (kind_at r t) ≡ some (kind_is k)) where
  read_is : record_at s t ≡ record_of (some (kind_is k)) (z.x * 256 + z.y) z.x z.y
  unfolding record_at
  read_is = rw (← e, d, i.x, i.y)

  module _ {o : Maybe ℕ} (f : o ≡ builder_of (some (kind_is k))) where
    pub node_atomic : o ≡ None → {v : Node} {n : ℕ} → n ≡ z.x * 256 + z.y → v ≡ record { head = Atom k; left = n; right = 0 } → v ≡ node_for (record_at s t)
    node_atomic h g q = q ∙ rw (read_is, g) (at_atom k (sym f ∙ h) _ _ _)

    pub node_compound : {h x y v : ℕ} → o ≡ Some h → x ≡ z.x → v ≡ cond (is_unary (shape_of z.kind)) z.x z.y → y ≡ v → record { head = Word h; left = x; right = y } ≡ node_for (record_at s t)
    node_compound j g q m = rw (read_is, g, m, q, i.kind, d) (at_word k (sym f ∙ j) _ _ _)

-- ---- the terms
-- the first t nodes are the first t terms'
pub record Filled (s : List ℕ) (ns : List Node) (t : ℕ) : Type 0 where
  pub long : length ns ≡ 384
  pub nodes : (k : ℕ) → k < t → node_of ns k ≡ node_for (record_at s k)

-- ---- the knowledge
-- the registers hold the first i entries
pub record EntriesPut (s regs : List ℕ) (i : ℕ) : Type 0 where
  pub long : length regs ≡ 256
  pub is : (k : ℕ) → k < i → get_or regs k 0 ≡ entry_at s k

-- ---- the guess
module _ {s t : List ℕ} (w : SubmissionRead s) (e : t ≡ s) {g : ℕ} (f : g ≡ guess s) where
  pub guess_listed : g < terms t
  guess_listed = rw (e, f) (claim_facts w).guess_below

  pub guess_made : {k : KindRead} → shape_of (kind_at t g) ≡ some (kind_is k) → {v : Node} (name : ℕ) → v ≡ record { head = Atom k; left = name; right = 0 } → v ≡ guess_node s name
  guess_made {k} h name i =
      let shape : shape_of (kind_at s (guess s)) ≡ some (kind_is k) = rw (e, f) at h in
      i ∙ rw (shape, ← (atom_for k (ap is_atomic (sym shape ∙ (claim_facts w).guess_shape))))

-- the node of the atom of a kind with a name, and that of the guess
abbrev pub atom_node : Kind → ℕ → Node
atom_node κ name = record { head = atom_head κ; left = name; right = 0 }

pub guess_atom : {s : List ℕ} (w : SubmissionRead s) (name : ℕ) → guess_node s name ≡ atom_node (claim_facts w).guess_kind name
guess_atom {s} w name = rw (claim_facts w).guess_shape

-- ---- the state m that holds these
module _ {s : List ℕ} {m : Machine} (w : SubmissionRead s) (h : Loaded s m) where
  same_terms : decoded (node_at m) m.nodes.used ≡ decoded (record_at s) (terms s)
  same_terms = rw h.many (decoded_alike (node_at m) (record_at s) (terms s) (term_record h.nodes))

  terms_held : (k : ℕ) → term_at m k ≡ term s k
  unfolding term_at term
  terms_held k = ap (λ ts. get_or ts k void) same_terms

  loaded_sound : SoundState m
  unfolding term_at term
  loaded_sound = record {
    table = subst (λ n. Table (node_at m) n (term_at m)) (sym h.many) (subst (λ ts. Table (node_at m) (terms s) (λ k. get_or ts k void)) (sym same_terms) (record {
      reads = λ k b. (claim_facts w).read.table.reads k b ∙ ap (message (term s)) (sym (term_record h.nodes k b));
      earlier = λ k b. rw (term_record h.nodes k b) ((claim_facts w).read.table.earlier k b);
      distinct = λ j k b c e. (claim_facts w).read.table.distinct j k b c (sym (term_record h.nodes j b) ∙ e ∙ term_record h.nodes k c);
    }));
    canonical = λ k b. let l : k < terms s = omega (arith, h.many) in ap node_for (term_record h.nodes k l) ∙ sym (h.nodes.is k l);
    written = λ r b. let l : r < entries s = omega (arith, h.used) in rw (h.known.is r l, h.many) ((claim_facts w).read.entry_below r l);
  }

  loaded_values : values m ≡ listed (λ i. term s (entry_at s i)) (entries s)
  unfolding values
  loaded_values = ap (listed (λ r. term_at m (register m r))) h.used ∙ grow_alike [] _ _ (entries s) (λ r l b. terms_held (register m r) ∙ ap (term s) (h.known.is r b))

  -- the guess's node is put after the terms, and its number into the next register
  module _ {v : Node} (name : ℕ) (q : v ≡ guess_node s name) where
    guess_record : record_for v ≡ leaf (claim_facts w).guess_kind name
    guess_record = rw (q, guess_atom w name) (atom_record (claim_facts w).guess_kind name 0)

    guess_fit : Fit m v
    guess_fit = record { sound = loaded_sound; canonical = rw guess_record (sym (q ∙ guess_atom w name)); low = rw guess_record tt }

    guess_absent : Absent m v 0
    guess_absent = record { none = λ k b. absurd (omega arith) }

    guess_started : (P : List ℕ) (o : Maybe ℕ) {r : Machine} → Finds m.nodes.items v 0 (terms s) o → Placed m v o r → Running s name P 0 r
    unfolding initial guessed registers grow
    guess_started P o e p =
        let d = placed_gives 0 guess_fit guess_absent o (rw h.many e) p in
        record {
          holds = record {
            sound = d.holds.sound;
            is = d.holds.is ∙ ap₂ (λ vs t. vs ++ t ∷ []) loaded_values (ap (message (term_at m)) guess_record ∙ ap (λ o. atom (atom_kind o) name) (sym (claim_facts w).guess_shape));
          };
          used = omega (arith, d.used, h.used);
          few = omega (arith, d.few, h.many, (claim_facts w).read.terms_most);
        }

-- the first nodes of a state stay the terms'
pub terms_stay : {s : List ℕ} {m r : Machine} {v : Node} {o : Maybe ℕ} → HasTerms s m → Placed m v o r → HasTerms s r
terms_stay {s} {m} {r} {v} {o} h p =
    let many = h.many in
    rw p.is (record {
      nodes = record { is = λ k b. nodes_stay m.nodes v o k (omega arith) ∙ h.nodes.is k b };
      many = omega (arith, nodes_many m.nodes v o);
    })

-- a run starts so
module _ {s : List ℕ} {v : Node} {o : Maybe ℕ} {r : Machine} (z : Started s v o r) where
  pub start_running : SubmissionRead s → (P : List ℕ) (name : ℕ) → v ≡ guess_node s name → Running s name P 0 r
  start_running w P name q = guess_started w z.loaded name q P o z.is z.placed

  pub start_terms : HasTerms s r
  start_terms = terms_stay (record { nodes = z.loaded.nodes; many = omega (arith, z.loaded.many) }) z.placed

  pub start_long : length r.registers ≡ 256
  start_long = rw z.placed.is (simp length-set z.loaded.registers)

  -- a search does not see what is put after the nodes that it looks at
  pub start_found : Finds r.nodes.items v 0 (terms s) o
  start_found = rw z.placed.is (go _ _ o z.is (λ k l. nodes_stay z.before.nodes v o k (omega (arith, z.loaded.many))))
    where
      go : (ns ms : List Node) (o : Maybe ℕ) → Finds ns v 0 (terms s) o → ((k : ℕ) → k < terms s → node_of ms k ≡ node_of ns k) → Finds ms v 0 (terms s) o
      go ns ms (Some i) (a, l, f, d) e = (a, l, e i l ∙ f, λ k x y q. let b : k < terms s = omega arith in d k x y (sym (e k b) ∙ q))
      go ns ms None f e = λ k a l q. f k a l (sym (e k l) ∙ q)

-- the guess's node has the name
pub guess_left : (s : List ℕ) {v : Node} (name : ℕ) → v ≡ guess_node s name → v ≡ guess_node s v.left
guess_left s name e = rw e
