-- The loop over two whole captures: each turn keeps what the comparison will come to. Assumes nothing.
use Rattle.std.proofs.Common.{◌≡◌, ℕ, suc, ◌+◌, ◌^◌, ◌<◌, Bool, true, false, List, [], ◌++◌, length, drop, sym, refl, ap, ◌∙◌, subst, true≢false, append-nil, arith}
use mathlib.Core.Bool.{false≢true}
use Rattle.protocol.specs.declared.state.Listener.{Listener}
use Rattle.pcap.specs.Records.{packet_of}
use Rattle.pcap.specs.Walker.{Counts}
use Rattle.comparison.specs.Account.{account_of}
use Rattle.comparison.specs.Listing.{unpaired}
use Rattle.comparison.specs.Compared.{finding_of, listed_in}
use Rattle.comparison.specs.Lockstep.{pair_difference, second_list, pair_list, list_by, second_look, first_look, advance_of, list_next}
use Rattle.comparison.specs.Windows.{begun, is_going, ends_by}
use Rattle.comparison.specs.ToCome.{rest_of, ended_by, Ending, ending_from, Kept}
use Rattle.comparison.specs.declared.site.Stand.{Stand}
use Rattle.comparison.specs.declared.site.Stand.TheVariants as stand
use Rattle.comparison.specs.declared.site.Look.{Look}
use Rattle.comparison.specs.declared.lockstep.Comparison.{Comparison}
use Rattle.comparison.specs.declared.lockstep.Turn.{Turn}
use Rattle.comparison.specs.declared.lockstep.Turn.TheVariants.{Went, NeedsFirst, NeedsSecond, Over}
use Rattle.comparison.specs.declared.lockstep.Advance.{Advance}
use Rattle.comparison.specs.declared.compare.Finding.{Finding}
use Rattle.comparison.proofs.Endings.{turn}
use Rattle.comparison.proofs.Closed.{size-after}
use Rattle.comparison.proofs.Whole.{found, whole, counts}

-- A turn keeps the room's size

second-size : (c : Comparison) (list : List ℕ) (y : Stand) → length (second_list c y list) ≡ length list
second-size c list stand.Passed = refl
second-size c list stand.Needs = refl
second-size c list (stand.Over z) = refl
second-size c list (stand.Fed h) = size-after (length list) c.tally list refl unpaired

list-size : (c : Comparison) (s1 s2 : List ℕ) (k : Look) (list : List ℕ) (x : Stand) → length (list_by c s1 s2 k x list) ≡ length list
list-size c s1 s2 k list stand.Passed = refl
list-size c s1 s2 k list stand.Needs = refl
list-size c s1 s2 k list (stand.Over end) = second-size c list k.stand
list-size c s1 s2 k list (stand.Fed h) = go k.stand
  where
    go : (y : Stand) → length (pair_list c h (packet_of h s1) s2 y list) ≡ length list
    go stand.Passed = refl
    go stand.Needs = refl
    go (stand.Over z) = size-after (length list) c.tally list refl unpaired
    go (stand.Fed g) = size-after (length list) c.tally list refl (pair_difference c h (packet_of h s1) g (packet_of g s2))

pub next-size : (c : Comparison) (w1 : List ℕ) (at1 : ℕ) (last1 : Bool) (w2 : List ℕ) (at2 : ℕ) (last2 : Bool) (list : List ℕ)
    → length (list_next c w1 at1 last1 w2 at2 last2 list) ≡ length list
unfolding list_next
next-size c w1 at1 last1 w2 at2 last2 list = list-size c (drop at1 w1) (drop at2 w2) (second_look c w2 at2 last2) list (first_look c w1 at1 last1).stand

module _ (first second : List ℕ) where
  -- what a state of the loop will come to, or has come to
  abbrev ending_by : List ℕ → Turn → Advance → Ending
  ending_by list Went a =
      ending_from (length list) a.comparison list (rest_of a.comparison.first (drop a.at1 first ++ [])) (rest_of a.comparison.second (drop a.at2 second ++ []))
  ending_by list NeedsFirst a = record { finding = ended_by a.comparison (ends_by NeedsFirst); list = list }
  ending_by list NeedsSecond a = record { finding = ended_by a.comparison (ends_by NeedsSecond); list = list }
  ending_by list (Over e) a = record { finding = ended_by a.comparison e; list = list }

  abbrev ending_at : List ℕ → Advance → Ending
  ending_at list a = ending_by list a.turn a

  -- the counts hold what is left; neither window needs more, as each is the last
  abbrev AliveBy : Turn → Advance → Type 0
  AliveBy Went a =
      Counts a.comparison.first.walker (length (drop a.at1 first ++ [])) × Counts a.comparison.second.walker (length (drop a.at2 second ++ []))
  AliveBy NeedsFirst a = ⊥
  AliveBy NeedsSecond a = ⊥
  AliveBy (Over e) a = Unit {0}

  -- the loop's invariant
  pub record Running (list₀ : List ℕ) (a₀ : Advance) (list : List ℕ) (a : Advance) : Type 0 where
    pub size : length list ≡ length list₀
    pub keeps : ending_at list₀ a₀ ≡ ending_at list a
    pub alive : AliveBy a.turn a

  -- and its measure: the bytes that are left, while it goes on
  abbrev left_by : Turn → Advance → ℕ
  left_by Went a = suc (length (drop a.at1 first) + length (drop a.at2 second))
  left_by NeedsFirst a = 0
  left_by NeedsSecond a = 0
  left_by (Over e) a = 0

  abbrev pub left : Advance → ℕ
  left a = left_by a.turn a

  went : (t : Turn) → is_going t ≡ true → t ≡ Went
  went Went e = refl
  went NeedsFirst e = absurd (false≢true e)
  went NeedsSecond e = absurd (false≢true e)
  went (Over x) e = absurd (false≢true e)

  -- one turn more
  module _ (list₀ : List ℕ) (a₀ : Advance) (list : List ℕ) (a : Advance) (r : Running list₀ a₀ list a) (going : is_going a.turn ≡ true) where
    abbrev next : Advance
    next = advance_of a.comparison first a.at1 true second a.at2 true (length list)

    abbrev listed : List ℕ
    listed = list_next a.comparison first a.at1 true second a.at2 true list

    is_went : a.turn ≡ Went
    is_went = went a.turn going

    alive : AliveBy Went a
    alive = subst (λ (t : Turn). AliveBy t a) is_went r.alive

    kept : ending_at list₀ a₀ ≡ ending_by list Went a
    kept = r.keeps ∙ ap (λ (t : Turn). ending_by list t a) is_went

    sizes : length listed ≡ length list
    sizes = next-size a.comparison first a.at1 true second a.at2 true list

    abbrev Turned : Turn → Type 0
    Turned t =
        (ending_at list₀ a₀ ≡ ending_by listed t next) × ((AliveBy t next) × (left_by t next < left_by Went a))

    by_turn : (t : Turn) → Kept a.comparison first a.at1 true [] second a.at2 true [] list t next listed → Turned t
    by_turn Went k = (
      kept ∙ k.0 ∙ ap (λ (n : ℕ). ending_from n next.comparison listed (rest_of next.comparison.first (drop next.at1 first ++ []))
          (rest_of next.comparison.second (drop next.at2 second ++ []))) (sym sizes),
      ((k.1.room1, k.1.room2), omega (arith, k.1.less)),
    )
    by_turn NeedsFirst k = absurd (true≢false k.0)
    by_turn NeedsSecond k = absurd (true≢false k.0)
    by_turn (Over e) k = (kept ∙ k, (tt, omega arith))

    turned : Turned next.turn
    turned =
        by_turn next.turn
        (turn a.comparison first a.at1 true [] second a.at2 true [] list alive.0 alive.1 (λ e. refl) (λ e. refl))

    -- it goes on, with less left
    pub again : {x : Advance} {last : List ℕ} → (x ≡ next) × (last ≡ listed) → Running list₀ a₀ last x
    again e = rw (e.0, e.1) (record { size = sizes ∙ r.size; keeps = turned.0; alive = turned.1.0 })

    pub less : {x : Advance} → x ≡ next → left x < left a
    less e = rw e (subst (λ (t : Turn). left_by next.turn next < left_by t a) (sym is_went) turned.1.1)

  -- At the start, of captures that a slice can hold
  module _ (l : Listener) (list : List ℕ) (h1 : length first < 2 ^ 64) (h2 : length second < 2 ^ 64) where
    start : ending_at list (begun l) ≡ found (account_of l first) (account_of l second) list
    start = rw (append-nil first, append-nil second) (whole l list first second h1 h2)

    pub begins : (a : Advance) → a ≡ begun l → Running list a list a
    begins a e =
        record { size = refl; keeps = refl; alive = rw (e, append-nil first, append-nil second) (counts first h1, counts second h2) }

    -- in the end
    pub ends : (a₀ : Advance) → a₀ ≡ begun l → (last : List ℕ) (a : Advance) → Running list a₀ last a → is_going a.turn ≡ false → {f : Finding} → f ≡ ended_by a.comparison (ends_by a.turn)
        → (f ≡ finding_of (account_of l first) (account_of l second) (length list)) × (last ≡ listed_in (account_of l first) (account_of l second) list)
    ends a₀ e₀ last a r over {f} e =
        let s : found (account_of l first) (account_of l second) list ≡ ending_at last a = sym start ∙ ap (ending_at list) (sym e₀) ∙ r.keeps in
        go a.turn over r.alive s e
      where
        go : (t : Turn) → is_going t ≡ false → AliveBy t a → found (account_of l first) (account_of l second) list ≡ ending_by last t a → f ≡ ended_by a.comparison (ends_by t)
            → (f ≡ finding_of (account_of l first) (account_of l second) (length list)) × (last ≡ listed_in (account_of l first) (account_of l second) list)
        go Went o k s q = absurd (true≢false o)
        go NeedsFirst o k s q = absurd k
        go NeedsSecond o k s q = absurd k
        go (Over x) o k s q = (q ∙ sym (ap (λ (z : Ending). z.finding) s), sym (ap (λ (z : Ending). z.list) s))
