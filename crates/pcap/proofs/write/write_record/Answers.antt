-- The header's bytes, and behind them the packet.
use Rattle.std.proofs.Common.{◌≡◌, ◌+◌, ◌-◌, length, ◌∙◌, arith}
use Rattle.pcap.specs.Write.{head_bytes}
use Rattle.pcap.specs.declared.file.ByteOrder.TheVariants.{LowFirst}
use Rattle.pcap.proofs.Written.{record_clear, head_length, put_whole}
use Rattle.pcap.proofs.write.write_record.Goals as goal

pub returns-clause-out_after : goal.returns-clause-out_after
returns-clause-out_after c =
    let a = c.args in
    let p = a.packet.now in
    let h = head_bytes a.seconds a.micros (length p) a.original in
    let first : c.copy_from_slice.new.self ≡ h = c.copy_from_slice.ensures.after ∙ c.head_bytes-head.ensures in
    let k : length h ≡ 16 = head_length LowFirst a.seconds a.micros (length p) a.original in
    rw (record_clear (length p) (length a.out.now) c.if-n-gt-MOST_CAPTURED.false c.if-out-size.false, first, c.copy_from_slice-2.ensures.after)
    (put_whole a.out.now h p 16 (16 + length p - 16) k (omega arith))
