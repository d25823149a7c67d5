-- The ban that ends first, found place by place. Assumes nothing.
use Prim.Native.Nat.{ℕ, ◌≤◌, ◌<◌}
use mathlib.Core.Path.{◌≡◌, refl, sym, ◌∙◌}
use mathlib.Core.Bool.{Bool}
use mathlib.Core.List.{List}
use native.Mathlib.Omega.{arith}
use lib.Dec.{leb}
use lib.ListN.{length, get_or}
use borrow.Author.Tests.{le-leb, lt-leb}
use Rattle.std.proofs.lemmas.List.Recursion.{and_from_places, and_fails_at}
use Rattle.std.proofs.lemmas.List.Sums.{position_or_len_is}
use Rattle.lists.specs.Lists.{every}
use Rattle.client.specs.Bans.{zero_ban, ends_first}
use Rattle.client.specs.declared.bans.Ban.{Ban}
use Rattle.client.proofs.AddBan.{first_is_position}

module _ (bans : List Ban) where
  abbrev end_at : ℕ → ℕ
  end_at j = (get_or bans j zero_ban).end

  -- of the places before i, the first of those that end first
  pub record Least (i first : ℕ) : Type 0 where
    pub within : first < length bans
    pub least : (j : ℕ) → j < i → end_at first ≤ end_at j
    pub sooner : (j : ℕ) → j < first → end_at first < end_at j

  abbrev not_before : ℕ → Ban → Bool
  not_before j y = leb (end_at j) y.end

  -- after all places
  pub least_end : (i first : ℕ) → Least i first → i ≡ length bans → first ≡ ends_first bans
  unfolding ends_first
  least_end i first l n =
      let fits = l.within in
      let later = λ (j : ℕ) (k : j < first). and_fails_at (every (not_before j)) (not_before j) refl (λ _ _. refl) bans first zero_ban fits (lt-leb _ _ (l.sooner j k)) in
      let it = and_from_places (every (not_before first)) (not_before first) refl (λ _ _. refl) bans zero_ban (λ j k. le-leb _ _ (l.least j (omega (arith, k, n)))) in
      sym (first_is_position (λ x. every (λ y. leb x.end y.end) bans) bans ∙ position_or_len_is (λ x. every (λ y. leb x.end y.end) bans) bans first zero_ban (omega (arith, fits)) later (λ _. it))
