use Rattle.lsm_directory.proofs.Padding.{padded_integral_six}
use Rattle.lsm_directory.proofs.telling.second_lines.write_number.Goals as goal

pub returns : goal.returns
returns g c = rw (c.laid_out.ensures, padded_integral_six) at c.write.ensures.bytes
