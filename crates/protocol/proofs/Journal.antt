-- The slots and the journal's entries hold the same connections: every weight of entries has one sum over both. Assumes nothing.
use Prim.Native.Nat.{ℕ, ◌+◌, ◌≤◌, ◌<◌}
use mathlib.Core.Path.{◌≡◌, refl, sym, ap, ◌∙◌, subst}
use mathlib.Core.Bool.{Bool, true, false, cond, ◌&&◌, true≢false, and-true, and-eq-true_iff}
use mathlib.Core.List.{List, [], ◌∷◌, ◌++◌}
use native.Mathlib.Omega.{arith}
use borrow.Author.Tests.{ltb-true, ltb-false, eqb-true, eq-eqb}
use lib.Dec.{ltb, eqb}
use lib.ListN.{length, get_or, set, take}
use Rattle.lists.specs.Lists.{bit, sum, tally, amend}
use Rattle.lists.specs.Bytes.{same_bytes}
use Rattle.endpoint.specs.Address.{Peer, same_peer, size, block}
use Rattle.endpoint.specs.declared.address.Family.{Family}
use Rattle.lists.proofs.Bools.{one_test}
use Rattle.lists.proofs.SameBytes.{same_bytes_eq, same_bytes_refl}
use Rattle.endpoint.proofs.Names.{same_peer_eq, same_peer_refl, short}
use Rattle.lists.proofs.Sums.{sum_ext, sum_le, sum-amend, sum-set, sum-only, amend-amend, amend_ext, All, sum_ext_all}
use Rattle.protocol.specs.Table.{is_live, is_pending, holds_peer, pending_at, pends_from, pending_from, free_slot}
use Rattle.protocol.specs.Journal.{Mark, mark_plain, mark_early, mark_open, mark_held, Entry, pends, pends_of_address, named, kept_mark, kept, only}
use Rattle.protocol.specs.declared.slots.Status.{Status}
use Rattle.protocol.specs.declared.slots.Status.TheVariants.{Free, SynReceived, SynReceivedEarly, ResetHeld, Established}
use Rattle.protocol.specs.declared.slots.Slot.{Slot}

-- The entry that a slot stands for

-- the name of a slot's connection: the family says how many bytes of the block are the address
abbrev pub name_of : Family → Slot → Peer
name_of f s = record { address = take (size f) s.addr; port = s.port }

-- none for a slot that is free at the time
abbrev pub entry_for : ℕ → Peer → Status → List Entry
entry_for t p Free = []
entry_for t p SynReceived = kept_mark t p mark_plain
entry_for t p (SynReceivedEarly n) = kept_mark t p mark_early
entry_for t p (ResetHeld end) = kept_mark t p (mark_held end)
entry_for t p Established = kept_mark t p mark_open

abbrev pub entry_in : Family → ℕ → Slot → List Entry
entry_in f t s = entry_for t (name_of f s) s.status

-- a slot is live and has one entry, which has not ended, or it is free and has none
pub by_entry : (t : ℕ) (p : Peer) (st : Status) (Q : Bool → List Entry → Type 0) → Q false []
    → ((k : Mark) → kept_mark t p k ≡ record { peer = p; mark = k } ∷ [] → Q true (record { peer = p; mark = k } ∷ [])) → Q (is_live t st) (entry_for t p st)
by_entry t p Free Q none one = none
by_entry t p SynReceived Q none one = one mark_plain refl
by_entry t p (SynReceivedEarly n) Q none one = one mark_early refl
by_entry t p (ResetHeld end) Q none one = go (ltb t end) refl
  where
    go : (b : Bool) → ltb t end ≡ b → Q b (cond b (record { peer = p; mark = mark_held end } ∷ []) [])
    go true e = one (mark_held end) (rw e)
    go false e = none
by_entry t p Established Q none one = one mark_open refl

-- a peer's connection stands in the slot, by name
abbrev pub stands : Family → ℕ → Peer → Slot → Bool
stands f t p s = is_live t s.status && same_peer p (name_of f s)

-- A slot keeps a block, and it is of an address of the family.
abbrev pub Fits : Family → Slot → Type 0
Fits f s = s.addr ≡ block (take (size f) s.addr)

-- a block in a slot, and the address that it is of
address_in : (f : Family) (s : Slot) (a : List ℕ) → length a ≡ size f → same_bytes s.addr (block a) ≡ true → take (size f) s.addr ≡ a
address_in f s a h e = ap (take (size f)) (same_bytes_eq _ _ e) ∙ short (size f) a h

block_in : (f : Family) (s : Slot) (a : List ℕ) → Fits f s → take (size f) s.addr ≡ a → same_bytes s.addr (block a) ≡ true
block_in f s a fit e = subst (λ b. same_bytes s.addr b ≡ true) (fit ∙ ap block e) (same_bytes_refl s.addr)

same_address : (f : Family) (s : Slot) (a : List ℕ) → length a ≡ size f → Fits f s → same_bytes (take (size f) s.addr) a ≡ same_bytes s.addr (block a)
same_address f s a h fit =
    one_test _ _ (λ e. block_in f s a fit (same_bytes_eq _ _ e)) (λ e. subst (λ x. same_bytes (take (size f) s.addr) x ≡ true) (address_in f s a h e) (same_bytes_refl _))

-- a search of the table by block finds what stands there by name
pub holds_peer-stands : (f : Family) (t : ℕ) (p : Peer) (s : Slot) → length p.address ≡ size f → Fits f s
    → holds_peer t (block p.address) p.port s ≡ stands f t p s
unfolding holds_peer
holds_peer-stands f t p s h fit = ap (λ b. is_live t s.status && b) (one_test _ _ there back)
  where
    there : (eqb s.port p.port && same_bytes s.addr (block p.address)) ≡ true → same_peer p (name_of f s) ≡ true
    there e =
        let both = (and-eq-true_iff (eqb s.port p.port) _).0 e in
        let addresses = address_in f s p.address h both.1 in
        let names : name_of f s ≡ p = λ i. record { address = addresses i; port = eqb-true s.port p.port both.0 i } in
        subst (λ n. same_peer p n ≡ true) (sym names) (same_peer_refl p)

    back : same_peer p (name_of f s) ≡ true → (eqb s.port p.port && same_bytes s.addr (block p.address)) ≡ true
    back e =
        let names : name_of f s ≡ p = sym (same_peer_eq p (name_of f s) e) in
        (and-eq-true_iff _ _).1 (eq-eqb s.port p.port (ap (λ n. n.port) names), block_in f s p.address fit (ap (λ n. n.address) names))

-- Rules that give an entry at most one, of its own name

abbrev pub Thins : (Entry → List Entry) → Type 0
Thins rule = (p : Peer) (e : Entry) → tally (named p) (rule e) ≤ bit (named p e)

thinned : (rule : Entry → List Entry) → Thins rule → (p : Peer) (es : List Entry) → tally (named p) (amend rule es) ≤ tally (named p) es
thinned rule h p es = omega (arith, sum-amend (λ e. bit (named p e)) rule es, sum_le (λ e. tally (named p) (rule e)) (λ e. bit (named p e)) (h p) es)

kept_thins : (t : ℕ) → Thins (kept t)
kept_thins t p e = go e.mark
  where
    go : (k : Mark) → tally (named p) (kept_mark t e.peer k) ≤ bit (named p e)
    go mark_plain = omega arith
    go mark_early = omega arith
    go mark_open = omega arith
    go (mark_held end) =
        elim (ltb t end) as (λ b. tally (named p) (cond b (record { peer = e.peer; mark = mark_held end } ∷ []) []) ≤ bit (named p e))
        [ true ↦ omega arith | false ↦ omega arith ]

only_thins : (n : Peer) (rule : Entry → List Entry) → Thins rule → Thins (only n rule)
only_thins n rule h p e = go (named n e)
  where
    go : (b : Bool) → tally (named p) (cond b (rule e) (e ∷ [])) ≤ bit (named p e)
    go true = h p e
    go false = omega arith

-- the held that ended by an earlier time have ended by a later one
kept-later : (t t' : ℕ) → t ≤ t' → (p : Peer) (k : Mark) → amend (kept t') (kept_mark t p k) ≡ kept_mark t' p k
kept-later t t' h p mark_plain = refl
kept-later t t' h p mark_early = refl
kept-later t t' h p mark_open = refl
kept-later t t' h p (mark_held end) = go (ltb t end) (ltb t' end) refl refl
  where
    x : Entry
    x = record { peer = p; mark = mark_held end }

    go : (a b : Bool) → ltb t end ≡ a → ltb t' end ≡ b → amend (kept t') (cond a (x ∷ []) []) ≡ cond b (x ∷ []) []
    go true true p q = ap (λ c. cond c (x ∷ []) [] ++ []) q
    go true false p q = ap (λ c. cond c (x ∷ []) [] ++ []) q
    go false true p q = absurd (omega (arith, ltb-false t end p, ltb-true t' end q))
    go false false p q = refl

-- the pending of the names that pass a test: an entry that is kept counts as before
module _ (t : ℕ) (of : Peer → Bool) where
  abbrev pends_of : Entry → Bool
  pends_of e = pends t e.mark && of e.peer

  kept-pends : (p : Peer) (k : Mark) → tally pends_of (kept_mark t p k) ≡ bit (pends t k && of p)
  kept-pends p mark_plain = refl
  kept-pends p mark_early = omega arith
  kept-pends p mark_open = refl
  kept-pends p (mark_held end) = go (ltb t end) refl
    where
      go : (b : Bool) → ltb t end ≡ b → tally pends_of (cond b (record { peer = p; mark = mark_held end } ∷ []) []) ≡ bit (b && of p)
      go true e = omega (arith, ap (λ c. bit (c && of p)) e)
      go false e = refl

  entry-pends : (p : Peer) (st : Status) → tally pends_of (entry_for t p st) ≡ bit (is_pending t st && of p)
  entry-pends p Free = refl
  entry-pends p SynReceived = kept-pends p mark_plain
  entry-pends p (SynReceivedEarly n) = kept-pends p mark_early
  entry-pends p (ResetHeld end) = kept-pends p (mark_held end)
  entry-pends p Established = kept-pends p mark_open

  -- what has ended does not pend
  of_settled : (es : List Entry) → tally pends_of (amend (kept t) es) ≡ tally pends_of es
  of_settled es = sum-amend _ (kept t) es ∙ sum_ext _ _ (λ e. kept-pends e.peer e.mark) es

-- of every name
abbrev any : Peer → Bool
any p = true

any-pends : (t : ℕ) (es : List Entry) → tally (pends_of t any) es ≡ tally (λ e. pends t e.mark) es
any-pends t es = sum_ext _ _ (λ e. ap bit (and-true (pends t e.mark))) es

-- The slots and the entries at a time

pub record Match (f : Family) (t : ℕ) (slots : List Slot) (es : List Entry) : Type 0 where
  pub same : (w : Entry → ℕ) → sum w es ≡ sum (λ s. sum w (entry_in f t s)) slots
  pub once : (p : Peer) → tally (named p) es ≤ 1

module _ {f : Family} {t : ℕ} {slots : List Slot} {es : List Entry} (m : Match f t slots es) where
  pub stands-tally : (p : Peer) → tally (stands f t p) slots ≡ tally (named p) es
  stands-tally p = sum_ext _ _ go slots ∙ sym (m.same (λ e. bit (named p e)))
    where
      go : (s : Slot) → bit (stands f t p s) ≡ tally (named p) (entry_in f t s)
      go s = by_entry t (name_of f s) s.status (λ b xs. bit (b && same_peer p (name_of f s)) ≡ tally (named p) xs) refl (λ k live. omega arith)

  -- pending, of the names that pass a test; of all; and of an address, in slots that keep blocks of the family's addresses
  of_same : (of : Peer → Bool) → tally (pends_of t of) es ≡ tally (λ s. is_pending t s.status && of (name_of f s)) slots
  of_same of = m.same (λ e. bit (pends_of t of e)) ∙ sum_ext _ _ (λ s. entry-pends t of (name_of f s) s.status) slots

  pub pending-same : tally (λ e. pends t e.mark) es ≡ pending_at t slots
  pending-same = sym (any-pends t es) ∙ (of_same any ∙ sum_ext _ _ (λ s. ap bit (and-true (is_pending t s.status))) slots)

  pub from_same : (a : List ℕ) → length a ≡ size f → All (Fits f) slots → tally (pends_of_address t a) es ≡ pending_from t (block a) slots
  unfolding pends_from
  from_same a h fits = of_same (λ p. same_bytes p.address a) ∙ sum_ext_all (Fits f) _ _ (λ s fit. ap (λ c. bit (is_pending t s.status && c)) (same_address f s a h fit)) slots fits

  -- a rule at work on the entries is at work on the slots'
  amended : (rule : Entry → List Entry) (w : Entry → ℕ) → sum w (amend rule es) ≡ sum (λ s. sum w (amend rule (entry_in f t s))) slots
  amended rule w = sum-amend w rule es ∙ (m.same (λ e. sum w (rule e)) ∙ sum_ext _ _ (λ s. sym (sum-amend w rule (entry_in f t s))) slots)

  -- time passes
  match_later : (t' : ℕ) → t ≤ t' → Match f t' slots (amend (kept t') es)
  match_later t' h =
      record {
        same = λ w. amended (kept t') w ∙ sum_ext _ _ (λ s. ap (sum w) (go (name_of f s) s.status)) slots;
        once = λ p. omega (arith, thinned (kept t') (kept_thins t') p es, m.once p);
      }
    where
      go : (p : Peer) (st : Status) → amend (kept t') (entry_for t p st) ≡ entry_for t' p st
      go p Free = refl
      go p SynReceived = refl
      go p (SynReceivedEarly n) = refl
      go p (ResetHeld end) = kept-later t t' h p (mark_held end)
      go p Established = refl

  -- a new entry, and a slot for it in a place that was free
  pub match_add : (p : Peer) (k : Mark) (i : ℕ) (s : Slot) → tally (named p) es ≡ 0 → i < length slots → is_live t (get_or slots i free_slot).status ≡ false
      → entry_in f t s ≡ record { peer = p; mark = k } ∷ [] → Match f t (set slots i s) (record { peer = p; mark = k } ∷ es)
  match_add p k i s none h free e =
      record {
        same = λ w. omega (arith, m.same w, sum-set (λ x. sum w (entry_in f t x)) slots i s free_slot h, ap (sum w) e, ap (sum w) (bare free));
        once = λ q. ones q (same_peer q p) refl;
      }
    where
      o : Slot
      o = get_or slots i free_slot

      bare : is_live t o.status ≡ false → entry_in f t o ≡ []
      bare = by_entry t (name_of f o) o.status (λ b xs. b ≡ false → xs ≡ []) (λ _. refl) (λ k live q. absurd (true≢false q))

      ones : (q : Peer) (b : Bool) → same_peer q p ≡ b → bit (same_peer q p) + tally (named q) es ≤ 1
      ones q true r = omega (arith, ap bit r, subst (λ x. tally (named x) es ≡ 0) (sym (same_peer_eq q p r)) none)
      ones q false r = omega (arith, ap bit r, m.once q)

-- Between calls

-- The journal may have a held entry that ends at its very time, after a reset under hold 0: the slots match what is left of the entries.
abbrev pub Settled : Family → ℕ → List Slot → List Entry → Type 0
Settled f t slots es = Match f t slots (amend (kept t) es)

pub settled : {f : Family} {t : ℕ} {slots : List Slot} {es : List Entry} → Match f t slots es → Settled f t slots es
settled {t} m = match_later m t (omega arith)

-- the next call's time
pub turned_on : (f : Family) (t t' : ℕ) (slots : List Slot) (es : List Entry) → t ≤ t' → Settled f t slots es → Match f t' slots (amend (kept t') es)
turned_on f t t' slots es h m =
    subst (λ xs. Match f t' slots xs)
    (amend-amend (kept t) (kept t') es ∙ amend_ext _ _ (λ e. kept-later t t' h e.peer e.mark) es)
    (match_later m t' h)

-- what has ended does not pend
pub pending_settled : (t : ℕ) (es : List Entry) → tally (λ e. pends t e.mark) (amend (kept t) es) ≡ tally (λ e. pends t e.mark) es
pending_settled t es = sym (any-pends t (amend (kept t) es)) ∙ (of_settled t any es ∙ any-pends t es)

pub from_settled : (t : ℕ) (a : List ℕ) (es : List Entry) → tally (pends_of_address t a) (amend (kept t) es) ≡ tally (pends_of_address t a) es
from_settled t a es = of_settled t (λ p. same_bytes p.address a) es

-- a peer's entry changes by a rule, and its slot to what the rule leaves of the slot's entry
pub settled_amend : (f : Family) (t : ℕ) (slots : List Slot) (es : List Entry) (p : Peer) (rule : Entry → List Entry) (i : ℕ) (s : Slot)
    → Match f t slots es → Thins rule → i < length slots → stands f t p (get_or slots i free_slot) ≡ true
    → entry_in f t s ≡ amend (λ e. amend (kept t) (rule e)) (entry_in f t (get_or slots i free_slot))
    → Settled f t (set slots i s) (amend (only p rule) es)
settled_amend f t slots es p rule i s m thin h here e =
    record {
      same = λ w. omega (
        arith,
        ap (sum w) (amend-amend (only p rule) (kept t) es),
        amended m both w,
        sum-only (stands f t p) (λ x. sum w (amend both (entry_in f t x))) (λ x. sum w (entry_in f t x)) (λ x q. ap (sum w) (off x q)) slots i free_slot
            (omega (arith, stands-tally m p, m.once p)) h here,
        sum-set (λ x. sum w (entry_in f t x)) slots i s free_slot h,
        ap (sum w) (on here ∙ sym e),
      );
      once = λ q. omega (arith, thinned (kept t) (kept_thins t) q (amend (only p rule) es), thinned (only p rule) (only_thins p rule thin) q es, m.once q);
    }
  where
    both : Entry → List Entry
    both x = amend (kept t) (only p rule x)

    o : Slot
    o = get_or slots i free_slot

    off : (x : Slot) → stands f t p x ≡ false → amend both (entry_in f t x) ≡ entry_in f t x
    off x = by_entry t (name_of f x) x.status (λ b xs. (b && same_peer p (name_of f x)) ≡ false → amend both xs ≡ xs) (λ _. refl) (λ k live q. rw (q, live))

    on : stands f t p o ≡ true → amend both (entry_in f t o) ≡ amend (λ x. amend (kept t) (rule x)) (entry_in f t o)
    on = by_entry t (name_of f o) o.status (λ b xs. (b && same_peer p (name_of f o)) ≡ true → amend both xs ≡ amend (λ x. amend (kept t) (rule x)) xs)
        (λ _. refl) (λ k live q. rw q)
