-- A search for a name that goes slot by slot, and a count of one address's slots. Assumes nothing.
use Rattle.std.proofs.Common.{◌≡◌, ℕ, ◌+◌, ◌<◌, ◌≤◌, Bool, true, false, List, length, get_or, sym, ◌∙◌, arith}
use Rattle.lists.proofs.FirstIndex.{Searched, searched_start, searched_on, searched_found, searched_end}
use Rattle.protocol.specs.Table.{holds_peer, pends_from, pending_from, scan_of}
use Rattle.protocol.specs.declared.slots.Slot.{Slot}
use Rattle.table.specs.Scan.{count_if}
use Rattle.table.proofs.ScanOf.{CountedTo, counted_start, counted_next, counted-end}

module _ (t : ℕ) (b : List ℕ) (p : ℕ) (slots : List Slot) where
  abbrev pub SearchLoop : ℕ → Type 0
  SearchLoop i = (i ≤ 64) × Searched (holds_peer t b p) slots i

  module _ (full : length slots ≡ 64) where
    -- at its start, one slot further, past the table, and at the name
    pub search_start : SearchLoop 0
    search_start = (omega arith, searched_start (holds_peer t b p) slots)

    module _ (i : ℕ) (k : SearchLoop i) where
      pub search_past : 64 ≤ i → i ≡ (scan_of t b p slots).place
      search_past h = searched_end (holds_peer t b p) slots i k.1 (omega arith)

      module _ (d : Slot) {here : Bool} (h : i < 64) (e : here ≡ holds_peer t b p (get_or slots i d)) where
        pub search_on : here ≡ false → SearchLoop (i + 1)
        search_on q = (omega arith, searched_on (holds_peer t b p) slots i k.1 d (omega arith) (sym e ∙ q))

        pub search_hit : here ≡ true → i ≡ (scan_of t b p slots).place
        search_hit q = searched_found (holds_peer t b p) slots i k.1 d (omega arith) (sym e ∙ q)

-- The count of one address, in the slots before an end
module _ (t : ℕ) (b : List ℕ) (slots : List Slot) (end : ℕ) where
  abbrev pub CountLoop : ℕ → ℕ → Type 0
  CountLoop i n = (i ≤ end) × CountedTo (pends_from t b) slots i n

  pub count_loop_start : CountLoop 0 0
  count_loop_start = (omega arith, counted_start (pends_from t b) slots)

  pub count_loop_on : (i n next : ℕ) (d : Slot) {here : Bool} → length slots ≡ 64 → end ≤ 64 → i < end → CountLoop i n → here ≡ pends_from t b (get_or slots i d) → next ≡ count_if n here → CountLoop (i + 1) next
  count_loop_on i n next d full h k c p e = (omega arith, counted_next (pends_from t b) slots i n next d full (omega arith) c.1 p e)

  -- past its end, which is 0 or that of the table
  module _ (i n : ℕ) (h : end ≤ i) (c : CountLoop i n) where
    pub counted_none : end ≡ 0 → n ≡ 0
    counted_none e = omega (arith, c.0, c.1.few)

    pub counted_each : length slots ≡ 64 → end ≡ 64 → n ≡ pending_from t b slots
    counted_each full e = counted-end (pends_from t b) slots i n (omega arith) c.1
