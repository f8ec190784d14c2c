pub mod OwnPacket
