-- Four writes, one after the other.
use Rattle.std.proofs.Common.{not, [], ◌++◌, length, refl, ap, arith}
use Rattle.segment.proofs.Writes.{more, padded_out, prefix_length_lem, length_least, options-length, cookie-fits, padding-fits, wrote_plain, wrote_fast, overwrote}
use Rattle.segment.specs.Write.{mss_bytes, prefix_bytes, fast_open_bytes, option_bytes}
use Rattle.segment.proofs.write.put_options.Goals as goal

pub append-a-requires : goal.append-a-requires
append-a-requires c =
    let a = c.args in
    omega (arith, options-length a.mss a.fast a.coding a.cookie.now, length_least a.fast a.coding (length a.cookie.now))

pub returns-then-not-fast : goal.returns-then-not-fast
returns-then-not-fast c =
    let a = c.args in
    let o = a.out.now in
    let x = c.append-a.ensures in
    let w = overwrote o (option_bytes a.mss a.fast a.coding a.cookie.now) _ _ (wrote_plain o a.mss a.fast a.coding a.cookie.now _ _ (ap not c.if-not-fast.true)
    (more o [] (mss_bytes a.mss) o _ 0 _ (refl, refl) x.value (rw c.to_be_bytes.ensures at x.out_after))) in
    record { value = w.0; out_after = w.1 }

pub put_prefix-b-requires : goal.put_prefix-b-requires
put_prefix-b-requires c =
    let a = c.args in
    let n = prefix_length_lem a.coding (length a.cookie.now) in (
      omega (arith, cookie-fits a.mss a.fast a.coding a.cookie.now _ (ap not c.if-not-fast.false) c.requires.0),
      omega (arith, n, cookie-fits a.mss a.fast a.coding a.cookie.now _ (ap not c.if-not-fast.false) c.requires.1),
    )

pub append-c-requires : goal.append-c-requires
append-c-requires c =
    let a = c.args in
    omega (arith, prefix_length_lem a.coding (length a.cookie.now), cookie-fits a.mss a.fast a.coding a.cookie.now _ (ap not c.if-not-fast.false) c.requires.1)

pub pad-requires : goal.pad-requires
pad-requires c =
    let a = c.args in
    padding-fits a.mss a.fast a.coding a.cookie.now _ _ (ap not c.if-not-fast.false) (omega arith)
    (omega (arith, prefix_length_lem a.coding (length a.cookie.now)))

pub returns : goal.returns
returns c =
    let a = c.args in
    let o = a.out.now in
    let ck = a.cookie.now in
    let m = mss_bytes a.mss in
    let before = prefix_bytes a.coding (length ck) in
    let x = c.append-a.ensures in
    let y = c.put_prefix-b.ensures in
    let z = c.append-c.ensures in
    let p = c.pad.ensures in
    let u = more o [] m o _ 0 _ (refl, refl) x.value (rw c.to_be_bytes.ensures at x.out_after) in
    let v = more o m before _ _ _ _ u y.value y.out_after in
    let w = more o (m ++ before) ck _ _ _ _ v z.value z.out_after in
    let e = overwrote o (option_bytes a.mss a.fast a.coding ck) _ _ (wrote_fast o a.mss a.fast a.coding ck _ _ (ap not c.if-not-fast.false)
    (padded_out o (m ++ fast_open_bytes a.coding ck) _ _ _ _ w p.value p.out_after)) in
    record { value = e.0; out_after = e.1 }
