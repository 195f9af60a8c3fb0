-- The machine's step over terms: "Each rule forms a term with its own head .. unless one of these reductions applies to it."
use Rattle.base.specs.Words.{ite, Dec·and}
use Rattle.term.specs.{Term.Cipher, Term.Side, Term.left, Term.right, Term.pair, Term.hash, Term.encryption, Term.Head, Term.make, Term.part, Term.decrypt, Term.Term, Term.atom, Term.node, Computed.head?, Computed.term?, Term.pick, Computed.match?}

-- two heads that cancel: the outer head over a term with the inner head gives that term's first operand where the keys match
unfoldable pub cancelled : Cipher → Head → Head → Term → Term → Term
cancelled c inner outer (atom κ n) b = node outer (atom κ n) b
cancelled c inner outer (node h x k) b = ite (Dec·and (head? h inner) (match? c k b)) x (node outer (node h x k) b)

-- "pair(fst t, snd t) gives t"
unfoldable pub paired : Term → Term → Term
paired (atom κ n) b = node (make pair) (atom κ n) b
paired (node h x x') (atom κ n) = node (make pair) (node h x x') (atom κ n)
paired (node h x x') (node h' y y') =
    ite (Dec·and (head? h (part left)) (Dec·and (head? h' (part right)) (term? y x))) x (node (make pair) (node h x x') (node h' y y'))

-- "fst and snd of a pair give the part"
unfoldable pub parted : Side → Term → Term → Term
parted s (atom κ n) b = node (part s) (atom κ n) b
parted s (node h x y) b = ite (head? h (make pair)) (pick s x y) (node (part s) (node h x y) b)

-- the step of the rule h on the operands a and b; A2: "the machine has no reduction for it", the hash
unfoldable pub op : Head → Term → Term → Term
op (make pair) a b = paired a b
op (make hash) a b = node (make hash) a b
op (make (encryption c)) a b = cancelled c (decrypt c) (make (encryption c)) a b
op (part s) a b = parted s a b
op (decrypt c) a b = cancelled c (make (encryption c)) (decrypt c) a b
