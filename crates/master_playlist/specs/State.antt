-- What a variant stands for.
use Rattle.master_playlist.specs.declared.variant.Variant.TheInside.{Inside}
use Rattle.master_playlist.specs.Listed.{Listed}

abbrev pub listed : Inside → Listed
listed v = record {
  name = v.name.now;
  codecs = v.codecs.now;
  width = v.width;
  height = v.height;
  peak = v.peak;
  average = v.average;
  frame_peak = v.frame_peak;
  frame_average = v.frame_average;
}
