-- What is promised of hashes: document 02, A2, "One-way functions". "Deducibility, the conditions, the page and the promise about wrong guesses
-- all take in the new kind": demands 1 to 3 are about all terms, and so about hashes.
use Rattle.std.specs.Prelude.{◌≡◌, ◌⊎◌, ◌↔◌, ◌∷◌, ◌++◌, ◌<◌}
use Rattle.base.specs.{Words.List, Words.[], Words.ℕ, Words.Bytes, Answer.Clear}
use Rattle.term.specs.{Term.symmetric, Term.asymmetric, Term.Form, Term.hash, Term.encryption, Term.Head, Term.make, Term.Term, Term.node, Term.Part, Reduce.op, Step.Step, Step.Deducible, Step.Undoes}
use Rattle.submission.specs.{Record.terms, Record.kind_at, Record.x_at, Record.y_at, Record.rule_at, Record.q_at, Record.term, Check.rows1to4}
use Rattle.derivation.specs.Step.{first_premise, concluded, Premise, StepFits}
use Rattle.program.specs.Program.{Instruction}
use Rattle.text.specs.Text.{space, newline, register_text, step_line}

-- hash(t); a head with one operand holds it twice
abbrev pub hash_of : Term → Term
hash_of t = node (make hash) t t

-- enc(t, k)
abbrev pub enc_of : Term → Term → Term
enc_of t k = node (make (encryption symmetric)) t k

pub record HashPromise : Type 1 where
  -- "term kind 7, hash(x), with y = 0 and x an earlier term"
  pub listed : (s : List ℕ) → Bytes s → Clear (rows1to4 s) → (n : ℕ) → n < terms s → kind_at s n ≡ 7 →
      (y_at s n ≡ 0) × ((x_at s n < n) × (term s n ≡ hash_of (term s (x_at s n))))
  -- "rule 7, hash, which concludes hash(p) from p with q = 0": q is no premise
  pub concludes : (s : List ℕ) (i : ℕ) → rule_at s i ≡ 7 → StepFits s i →
      (q_at s i ≡ 0) × ((concluded s i ≡ hash_of (first_premise s i)) × ((x : Term) → Premise s i x → x ≡ first_premise s i))
  -- y of a hash is no part of it
  pub parts : (x t : Term) → Part x (hash_of t) ↔ ((x ≡ hash_of t) ⊎ Part x t)
  -- "A hash may be the key of kind 5", and not of kind 6
  pub key_of5 : (t x : Term) → Step (make (encryption symmetric)) t (hash_of x) (enc_of t (hash_of x))
  pub not_of6 : (t x c : Term) → Step (make (encryption asymmetric)) t (hash_of x) c → ⊥
  -- under such a key a term is opened when the key can be built; the key need not be known
  pub built : (K : Term → Type 0) (x : Term) → Deducible K x → Deducible K (hash_of x)
  pub opened : (K : Term → Type 0) (t x : Term) → Deducible K (enc_of t (hash_of x)) → Deducible K x → Deducible K t
  -- "Nothing undoes a hash", and a hash undoes nothing
  pub kept : (h : Head) (p t p' t' : Term) → Undoes h p t (make hash) p' t' → ⊥
  pub keeps : (h : Head) (p t p' t' : Term) → Undoes (make hash) p t h p' t' → ⊥
  -- whatever a step concludes from a hash as its first premise is built over it: nothing is taken out
  pub shut : (h : Head) (x q c : Term) → Step h (hash_of x) q c → (f : Form) × (c ≡ node (make f) (hash_of x) q)
  -- one way: a hash alone does not give its operand
  pub one_way : (x : Term) → Deducible (λ t. t ≡ hash_of x) x → ⊥
  -- "the machine has no reduction for it", with the hash just formed, nor with a hash as first operand
  pub unreduced : (a b : Term) → op (make hash) a b ≡ node (make hash) a b
  pub irreducible : (h : Head) (x b : Term) → op h (hash_of x) b ≡ node h (hash_of x) b
  -- "it prints with one register", after the word hash in ASCII
  pub printed : (r : ℕ) (i : Instruction) → i.rule ≡ 7 →
      step_line r i ≡ register_text r ++ space ++ (0x3D ∷ []) ++ space ++ (0x68 ∷ 0x61 ∷ 0x73 ∷ 0x68 ∷ []) ++ space ++ register_text i.left ++ newline
