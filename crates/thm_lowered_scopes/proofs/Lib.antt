mod Lowered
