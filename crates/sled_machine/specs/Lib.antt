pub use Rattle.machine_alone.specs as machine_alone
pub use Rattle.machine_shared.specs as machine_shared
